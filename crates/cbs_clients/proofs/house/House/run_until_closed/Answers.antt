use Rattle.cbs_host.specs.Meters.{NothingBeyond}
use Rattle.cbs_clients.proofs.Moves.{never_beyond, serves_never}
use Rattle.cbs_clients.proofs.house.House.run_until_closed.Goals as goal

pub returns-clause-steps : goal.returns-clause-steps
returns-clause-steps g c =
    let r = c.run_until_closed_metered in
    serves_never g.W.Work.meaning NothingBeyond c.args.self.now r.new.self never_beyond r.ensures.steps

pub returns-clause-on_time : goal.returns-clause-on_time
returns-clause-on_time g c = c.run_until_closed_metered.ensures.on_time never_beyond

pub returns-clause-paced : goal.returns-clause-paced
returns-clause-paced g c = c.run_until_closed_metered.ensures.paced
