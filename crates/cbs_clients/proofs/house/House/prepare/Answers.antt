use Rattle.std.proofs.Common.{◌<◌, [], length, refl, inl, arith, rules}
use Rattle.cbs_clients.proofs.HouseInvariant.{housed_all, same_shelf}
use Rattle.cbs_clients.proofs.MadeSteps.{made_room}
use Rattle.cbs_recorded.proofs.Recorded.{recorded_room}
use Rattle.cbs_clients.specs.Houses.{core_of, tape_of}
use Rattle.cbs_clients.proofs.RingLooks.{no_look, seen_within}
use Rattle.cbs_clients.proofs.house.House.prepare.Goals as goal

pub returns-in-Err-Closed-clause-made : goal.returns-in-Err-Closed-clause-made
returns-in-Err-Closed-clause-made g c =
    made_room g.W.Work.meaning _ _ (no_look c.args.self.now.rings) c.make_room.ensures.state (λ s. same_shelf _) (recorded_room g.W.Work.meaning _ _ _ c.make_room.ensures.same)

pub returns-in-Err-Closed-clause-some : goal.returns-in-Err-Closed-clause-some
returns-in-Err-Closed-clause-some g c =
    let closed = rw c.in-Err-Closed.field-0-is at c.in-Err-Closed.ensures.refused in
    (made_room g.W.Work.meaning _ _ (no_look c.args.self.now.rings) c.make_room.ensures.state (λ s. same_shelf _) (recorded_room g.W.Work.meaning _ _ _ c.make_room.ensures.same), closed.within, inl closed.closed)

pub returns-in-Err-BacklogFull-clause-made : goal.returns-in-Err-BacklogFull-clause-made
returns-in-Err-BacklogFull-clause-made g c =
    made_room g.W.Work.meaning _ _ (no_look c.args.self.now.rings) c.make_room.ensures.state (λ s. same_shelf _) (recorded_room g.W.Work.meaning _ _ _ c.make_room.ensures.same)

pub returns-in-Err-BacklogFull-clause-some : goal.returns-in-Err-BacklogFull-clause-some
returns-in-Err-BacklogFull-clause-some g c =
    let full = rw c.in-Err-BacklogFull.field-0-is at c.in-Err-BacklogFull.ensures.refused in
    let seen = c.requires in
    (made_room g.W.Work.meaning _ _ (no_look c.args.self.now.rings) c.make_room.ensures.state (λ s. same_shelf _) (recorded_room g.W.Work.meaning _ _ _ c.make_room.ensures.same), full.0, omega arith, full.1)

pub returns-in-Err : goal.returns-in-Err
returns-in-Err g c =
    let seen = c.requires in
    let rings = c.args.self.now.housed.ring_count in
    let ring = seen_within c.args.self.now.rings c.args.server seen in
    let within : c.args.server < length (core_of c.args.self.now).faces = omega (arith, ring, rings) in
    let made = made_room g.W.Work.meaning c.args.self.now _ (no_look c.args.self.now.rings) c.make_room.ensures.state (λ s. same_shelf _)
    (recorded_room g.W.Work.meaning (core_of c.args.self.now) c.make_room.new.self (tape_of c.args.self.now) c.make_room.ensures.same) in
    record { made = made; core = c.make_room.ensures.same; results = λ s. refl; some = (made, search (rules, within), seen); none = tt }

pub returns-in-Err-reserve-clause-made : goal.returns-in-Err-reserve-clause-made
returns-in-Err-reserve-clause-made g c =
    made_room g.W.Work.meaning _ _ (no_look c.args.self.now.rings) c.make_room.ensures.state c.reserve.ensures.same.0 (recorded_room g.W.Work.meaning _ _ _ c.make_room.ensures.same)

pub returns-in-Err-reserve-clause-some : goal.returns-in-Err-reserve-clause-some
returns-in-Err-reserve-clause-some g c =
    let seen = c.requires in
    let rings = c.args.self.now.housed.ring_count in
    let ring = seen_within c.args.self.now.rings c.args.server seen in
    let within : c.args.server < length (core_of c.args.self.now).faces = omega (arith, ring, rings) in
    (made_room g.W.Work.meaning _ _ (no_look c.args.self.now.rings) c.make_room.ensures.state c.reserve.ensures.same.0 (recorded_room g.W.Work.meaning _ _ _ c.make_room.ensures.same), search (rules, within), seen)

pub returns-in-Ok-reserve-clause-made : goal.returns-in-Ok-reserve-clause-made
returns-in-Ok-reserve-clause-made g c =
    made_room g.W.Work.meaning _ _ (no_look c.args.self.now.rings) c.make_room.ensures.state c.reserve.ensures.same.0 (recorded_room g.W.Work.meaning _ _ _ c.make_room.ensures.same)

pub returns-in-Err-Closed-clause-core : goal.returns-in-Err-Closed-clause-core
returns-in-Err-Closed-clause-core g c = c.make_room.ensures.same

pub returns-in-Err-Closed-clause-results : goal.returns-in-Err-Closed-clause-results
returns-in-Err-Closed-clause-results g c = λ s. refl

pub returns-in-Err-BacklogFull-clause-core : goal.returns-in-Err-BacklogFull-clause-core
returns-in-Err-BacklogFull-clause-core g c = c.make_room.ensures.same

pub returns-in-Err-BacklogFull-clause-results : goal.returns-in-Err-BacklogFull-clause-results
returns-in-Err-BacklogFull-clause-results g c = λ s. refl

pub returns-in-Err-reserve-clause-core : goal.returns-in-Err-reserve-clause-core
returns-in-Err-reserve-clause-core g c = c.make_room.ensures.same

pub returns-in-Err-reserve-clause-results : goal.returns-in-Err-reserve-clause-results
returns-in-Err-reserve-clause-results g c = λ s. (c.reserve.ensures.same.0 s).results

pub returns-in-Ok-reserve-clause-core : goal.returns-in-Ok-reserve-clause-core
returns-in-Ok-reserve-clause-core g c = c.make_room.ensures.same

pub returns-in-Ok-reserve-clause-results : goal.returns-in-Ok-reserve-clause-results
returns-in-Ok-reserve-clause-results g c = λ s. (c.reserve.ensures.same.0 s).results

pub returns-in-Ok-reserve-clause-none : goal.returns-in-Ok-reserve-clause-none
returns-in-Ok-reserve-clause-none g c = record { room = c.in-Ok.ensures.room; spare = c.in-Ok-reserve.ensures.room; next = c.requires }

pub invariant_of-self : goal.invariant_of-self
invariant_of-self g c =
    let a = c.args.self.now in
    let same = c.make_room.ensures.same in
    record {
      housed = housed_all g.W.Work.meaning a.core c.make_room.new.self a.rings a.rings a.collector a.collector a.housed refl refl (rw same refl) []
          c.make_room.ensures.state (λ s. rw same (record { jobs = refl; accepted = refl; finished = refl; closed = refl })) (λ s. refl)
          (λ s. same_shelf _);
    }

pub invariant_of-self-2 : goal.invariant_of-self-2
invariant_of-self-2 g c =
    let a = c.args.self.now in
    let same = c.make_room.ensures.same in
    record {
      housed = housed_all g.W.Work.meaning a.core c.make_room.new.self a.rings a.rings a.collector c.reserve.new.self a.housed refl
          c.reserve.ensures.same.1 (rw same refl) [] c.make_room.ensures.state
          (λ s. rw same (record { jobs = refl; accepted = refl; finished = refl; closed = refl })) (λ s. refl) c.reserve.ensures.same.0;
    }
