use Rattle.std.proofs.Common.{arith, rules}
use Rattle.std.proofs.lemmas.Grind.{common_steps}
use Rattle.std.proofs.lemmas.Result.{on_ok_weaker}
use Rattle.cbs_clients.specs.Houses.{received}
use Rattle.cbs_clients.proofs.RingLooks.{prefix_same}
use Rattle.cbs_clients.proofs.Moves.{serves_drained}
use Rattle.cbs_house.proofs.StandingMessages.{all_taken_after}
use Rattle.cbs_house.proofs.service.drain_rest.Goals as goal

pub returns-in_err-take_rest-clause-halts : goal.returns-in_err-take_rest-clause-halts
returns-in_err-take_rest-clause-halts g c = search rules

pub returns-in_err-take_rest-clause-ready : goal.returns-in_err-take_rest-clause-ready
returns-in_err-take_rest-clause-ready g c = c.take_rest.ensures.ready

pub returns-in_err-take_rest-clause-feeds : goal.returns-in_err-take_rest-clause-feeds
returns-in_err-take_rest-clause-feeds g c = c.take_rest.ensures.feeds

pub returns-in_err-take_rest-clause-steps : goal.returns-in_err-take_rest-clause-steps
returns-in_err-take_rest-clause-steps g c = c.take_rest.ensures.steps

pub returns-clause-ready : goal.returns-clause-ready
returns-clause-ready g c =
    let ready = c.take_rest.ensures.ready in record { few = ready.few; opened = rw c.drain_metered.ensures.rings ready.opened }

pub returns-clause-feeds : goal.returns-clause-feeds
returns-clause-feeds g c = c.take_rest.ensures.feeds

pub returns-clause-steps : goal.returns-clause-steps
returns-clause-steps g c = serves_drained g.W.Work.meaning g.M.Meter.may_tell c.args.house.now c.take_rest.new.house c.drain_metered.new.self
    c.take_rest.ensures.steps c.drain_metered.ensures.moves

pub returns-clause-drained : goal.returns-clause-drained
returns-clause-drained g c = c.drain_metered.ensures.ok

pub returns-clause-taken : goal.returns-clause-taken
returns-clause-taken g c =
    let a = c.take_rest.new.house in
    let b = c.drain_metered.new.self in
    on_ok_weaker c.drain_metered.result (λ none. all_taken_after a b c.take_rest.new.feeds
    (λ s. prefix_same (received a s) (received b s) (c.drain_metered.ensures.received s)) c.in_ok-take_rest.ensures.taken) c.drain_metered.ensures.ok

pub returns-clause-halts : goal.returns-clause-halts
returns-clause-halts g c = grind (arith, common_steps)
