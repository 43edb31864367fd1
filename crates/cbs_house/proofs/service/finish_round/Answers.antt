use Rattle.std.proofs.Common.{rules}
use Rattle.std.specs.Prelude.{IfErr}
use Rattle.cbs_house.proofs.Feeds.{feeds_on}
use Rattle.cbs_clients.proofs.Moves.{serves_looked}
use Rattle.cbs_house.proofs.Looks.{still_halts}
use Rattle.cbs_house.proofs.StandingMessages.{all_settled}
use Rattle.cbs_house.specs.Rounds.{Halts}
use Rattle.cbs_house.proofs.service.finish_round.Goals as goal

pub returns-in_err-drained-clause-ready : goal.returns-in_err-drained-clause-ready
returns-in_err-drained-clause-ready g c = c.settle_all.ensures.ready

pub returns-in_err-drained-clause-feeds : goal.returns-in_err-drained-clause-feeds
returns-in_err-drained-clause-feeds g c =
    feeds_on c.args.feeds.now c.drain_rest-drained.new.feeds c.settle_all.new.feeds c.drain_rest-drained.ensures.feeds c.settle_all.ensures.feeds

pub returns-in_err-drained-clause-steps : goal.returns-in_err-drained-clause-steps
returns-in_err-drained-clause-steps g c = serves_looked g.W.Work.meaning g.M.Meter.may_tell c.args.house.now c.drain_rest-drained.new.house
    c.settle_all.new.house c.drain_rest-drained.ensures.steps c.settle_all.ensures.looked

pub returns-in_err-drained-clause-halts : goal.returns-in_err-drained-clause-halts
returns-in_err-drained-clause-halts g c =
    let was = c.drain_rest-drained.new.house in
    let halts : IfErr c.from_residual.result (λ error. Halts error was) = search rules in
    still_halts c.from_residual.result was c.settle_all.new.house c.settle_all.ensures.looked halts

pub returns-clause-ready : goal.returns-clause-ready
returns-clause-ready g c = c.settle_all.ensures.ready

pub returns-clause-feeds : goal.returns-clause-feeds
returns-clause-feeds g c =
    feeds_on c.args.feeds.now c.drain_rest-drained.new.feeds c.settle_all.new.feeds c.drain_rest-drained.ensures.feeds c.settle_all.ensures.feeds

pub returns-clause-steps : goal.returns-clause-steps
returns-clause-steps g c = serves_looked g.W.Work.meaning g.M.Meter.may_tell c.args.house.now c.drain_rest-drained.new.house c.settle_all.new.house
    c.drain_rest-drained.ensures.steps c.settle_all.ensures.looked

pub returns-clause-settled : goal.returns-clause-settled
returns-clause-settled g c =
    let s = c.settle_all in all_settled s.new.house s.new.feeds (s.ensures.taken c.in_ok-drained.ensures.taken) s.ensures.received
