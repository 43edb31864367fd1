use Rattle.cbs_clients.specs.Houses.{core_of}
use Rattle.std.proofs.Common.{◌<◌, length, refl, ◌∙◌, inr, arith, rules}
use Rattle.std.proofs.lemmas.List.{nil_from_length}
use Rattle.cbs_clients.proofs.HouseInvariant.{same_shelf}
use Rattle.cbs_recorded.proofs.Recorded.{recorded_same}
use Rattle.cbs_clients.proofs.MadeSteps.{made_nothing, made_room, polled_after, polled_there}
use Rattle.cbs_clients.proofs.Moves.{polled_on_time}
use Rattle.cbs_clients.proofs.PacedMoves.{polled_paced}
use Rattle.cbs_clients.proofs.house.House.poll.Goals as goal

pub returns-then-index-len : goal.returns-then-index-len
returns-then-index-len g c =
    let rings = c.args.self.now.housed.ring_count in
    record { polled = (made_nothing g.W.Work.meaning _, omega arith); on_time = λ on. on; paced = λ on. on; rings = refl; results = λ s. refl; same = λ no. refl }

pub returns-then-is_empty : goal.returns-then-is_empty
returns-then-is_empty g c =
    let rings = c.args.self.now.housed.ring_count in
    let none = rw c.from-index.ensures at (c.is_empty.ensures.value.0 c.if-is_empty.true) in
    record {
      polled = (
        made_room g.W.Work.meaning _ _ c.is_empty.ensures.looked (λ M agrees. agrees) (λ s. same_shelf _) (recorded_same g.W.Work.meaning _ _ _ refl),
        omega arith,
        inr (nil_from_length _ none),
      );
      on_time = λ on. on;
      paced = λ on. on;
      rings = c.is_empty.ensures.looked.rings;
      results = λ s. refl;
      same = λ no. absurd (cc no);
    }

pub returns : goal.returns
returns g c =
    let work = g.W.Work.meaning in
    let a = c.args.self.now in
    let t = c.take_seen in
    let made = made_room work a _ c.is_empty.ensures.looked (λ M agrees. agrees) (λ s. same_shelf _) (recorded_same g.W.Work.meaning _ _ _ refl) in
    let polled = polled_after work a _ t.new.self c.args.server t.result made refl t.ensures.polled in
    let rings = a.housed.ring_count in
    let index = c.from-index.ensures in
    let ring = c.if-index-len.false in
    let within : c.args.server < length (core_of a).faces = omega (arith, rings, index, ring) in
    record {
      polled = polled;
      on_time = polled_on_time work a t.new.self c.args.server t.result a.housed.history polled;
      paced = polled_paced work a t.new.self c.args.server t.result a.housed.history polled;
      rings = t.ensures.rings ∙ c.is_empty.ensures.looked.rings;
      results = t.ensures.results;
      same = polled_there work a t.new.self c.args.server t.result polled within;
    }

pub is_empty-requires : goal.is_empty-requires
is_empty-requires g c = search rules

pub invariant_of-self : goal.invariant_of-self
invariant_of-self g c = search rules

pub take_seen-requires : goal.take_seen-requires
take_seen-requires g c = search rules
