use Rattle.cbs_clients.proofs.MadeSteps.{looks_results, polled_there}
use Rattle.cbs_host.specs.declared.poll.Poll.TheVariants.{Nothing}
use Rattle.std.proofs.Common.{◌<◌, length, refl, subst, sym, ◌∙◌, arith, inl, inr}
use Rattle.cbs_core.specs.Held.{IsClosed}
use Rattle.cbs_clients.proofs.Beside.{Shown, shown, all_taken, nothing_polled, none_shown, polled_behind, nothing_seen, closed_polled}
use Rattle.cbs_clients.proofs.Moves.{polled_on_time}
use Rattle.cbs_clients.proofs.PacedMoves.{polled_paced}
use Rattle.cbs_clients.proofs.RingLooks.{opened_within}
use Rattle.cbs_clients.specs.Clients.{server_of, sent_by}
use Rattle.cbs_clients.specs.Houses.{core_of, rings_of, known, Polled}
use Rattle.cbs_clients.proofs.house.House.poll_beside.Goals as goal

pub returns-then-settle-eq0-clause-nothing : goal.returns-then-settle-eq0-clause-nothing
returns-then-settle-eq0-clause-nothing g c =
    let a = c.args.self.now in
    let client = c.args.client.now in
    let s = c.settle in
    let k = shown a s.new.self client s.new.client s.result s.ensures.looked s.ensures.client.same s.ensures.client.sent s.ensures.value s.ensures.lawful in
    let none : Shown a s.new.self (server_of client) (sent_by client) 0 = rw c.if-settle-eq0.true at k in
    ((λ e. inr (all_taken a s.new.self (server_of client) (sent_by client) none)), (λ e. refl))

pub returns-then-settle-eq0-clause-poll : goal.returns-then-settle-eq0-clause-poll
returns-then-settle-eq0-clause-poll g c =
    let a = c.args.self.now in
    let client = c.args.client.now in
    let s = c.settle in
    let k = shown a s.new.self client s.new.client s.result s.ensures.looked s.ensures.client.same s.ensures.client.sent s.ensures.value s.ensures.lawful in
    let opened : server_of client < length (rings_of a) = opened_within (rings_of a) client c.requires in
    let count = a.housed.ring_count in
    let within : server_of client < length (core_of a).faces = omega (arith, opened, count) in
    let polled = nothing_polled g.W.Work.meaning a s.new.self (server_of client) (sent_by client) within (rw c.if-settle-eq0.true at k) in
    record {
      polled = polled;
      on_time = polled_on_time g.W.Work.meaning a s.new.self (server_of client) Nothing a.housed.history polled;
      paced = polled_paced g.W.Work.meaning a s.new.self (server_of client) Nothing a.housed.history polled;
      rings = s.ensures.looked.rings;
      results = looks_results a s.new.self s.ensures.looked;
      same = polled_there g.W.Work.meaning a s.new.self (server_of client) Nothing polled within;
    }

pub returns-clause-nothing : goal.returns-clause-nothing
returns-clause-nothing g c =
    let work = g.W.Work.meaning in
    let a = c.args.self.now in
    let client = c.args.client.now in
    let s = c.settle in
    let p = c.poll in
    let t = server_of client in
    let k = shown a s.new.self client s.new.client s.result s.ensures.looked s.ensures.client.same s.ensures.client.sent s.ensures.value s.ensures.lawful in
    let polled = subst (λ x. Polled work s.new.self x p.result p.new.self) (c.server.ensures ∙ s.ensures.client.same.0) p.ensures.polled in
    let count = k.count in
    let nonzero = c.if-settle-eq0.false in
    let some : 0 < length (known s.new.self t) = grind (arith, count, nonzero) in (
      (λ e. inl (subst (λ core. IsClosed core t) s.ensures.looked.core (nothing_seen work s.new.self p.new.self t p.result polled some e))),
      (λ why. elim why [
        | inl closed ↦ closed_polled work s.new.self p.new.self t p.result polled (subst (λ core. IsClosed core t) (sym s.ensures.looked.core) closed)
        | inr before ↦ absurd (nonzero (none_shown a s.new.self t (sent_by client) s.result k before))
      ]),
    )

pub returns-clause-poll : goal.returns-clause-poll
returns-clause-poll g c =
    let a = c.args.self.now in
    let s = c.settle in
    let p = c.poll in
    let t = server_of c.args.client.now in
    let polled = subst (λ x. Polled g.W.Work.meaning s.new.self x p.result p.new.self) (c.server.ensures ∙ s.ensures.client.same.0) p.ensures.polled in
    let behind = polled_behind g.W.Work.meaning a s.new.self p.new.self t p.result s.ensures.looked polled in
    let opened : t < length (rings_of a) = opened_within (rings_of a) c.args.client.now c.requires in
    let count = a.housed.ring_count in
    let within : t < length (core_of a).faces = omega (arith, opened, count) in
    record {
      polled = behind;
      on_time = polled_on_time g.W.Work.meaning a p.new.self t p.result a.housed.history behind;
      paced = polled_paced g.W.Work.meaning a p.new.self t p.result a.housed.history behind;
      rings = p.ensures.rings ∙ s.ensures.looked.rings;
      results = λ r. p.ensures.results r ∙ looks_results a s.new.self s.ensures.looked r;
      same = polled_there g.W.Work.meaning a p.new.self t p.result behind within;
    }
