use Rattle.cbs_house.proofs.Rounds.{turn_taken}
use Rattle.cbs_house.proofs.round.house_turn.Goals as goal

pub returns-clause-turn : goal.returns-clause-turn
returns-clause-turn g c =
    turn_taken g.W.Work.meaning g.M.Meter.may_tell c.args.house.now c.poll_each-polls.new.house c.run_metered.new.self c.poll_each-polls.result.took
    c.poll_each-polls.result.out_of_memory c.run_metered.result c.poll_each-polls.ensures.polled c.run_metered.ensures.run
