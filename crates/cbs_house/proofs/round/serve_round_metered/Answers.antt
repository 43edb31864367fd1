use Rattle.cbs_house.proofs.Feeds.{ready_on}
use Rattle.cbs_house.proofs.Rounds.{turns_rings, serves_turns}
use Rattle.cbs_clients.proofs.Moves.{serves_on_time}
use Rattle.cbs_clients.proofs.PacedMoves.{serves_paced}
use Rattle.cbs_house.proofs.round.serve_round_metered.Goals as goal

pub returns-clause-ready : goal.returns-clause-ready
returns-clause-ready g c =
    let b = c.both_sides-sent in
    let rings = turns_rings g.W.Work.meaning g.M.Meter.may_tell c.args.turns _ c.args.house.now b.new.house b.result.1 b.ensures.took in
    ready_on c.args.house.now b.new.house c.args.feeds.now b.new.feeds rings b.ensures.sends.kept c.requires.ready

pub returns-clause-on_time : goal.returns-clause-on_time
returns-clause-on_time g c = λ never.
    let b = c.both_sides-sent in
    let a = c.args.house.now in
    serves_on_time g.W.Work.meaning g.M.Meter.may_tell a b.new.house never a.housed.history
    (serves_turns g.W.Work.meaning g.M.Meter.may_tell c.args.turns _ a b.new.house b.result.1 b.ensures.took)

pub returns-clause-paced : goal.returns-clause-paced
returns-clause-paced g c =
    let b = c.both_sides-sent in
    let a = c.args.house.now in
    serves_paced g.W.Work.meaning g.M.Meter.may_tell a b.new.house a.housed.history
    (serves_turns g.W.Work.meaning g.M.Meter.may_tell c.args.turns _ a b.new.house b.result.1 b.ensures.took)
