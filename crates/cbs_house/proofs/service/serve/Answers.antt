use Rattle.cbs_host.specs.Meters.{NothingBeyond}
use Rattle.cbs_clients.proofs.Moves.{never_beyond, serves_never}
use Rattle.cbs_house.proofs.service.serve.Goals as goal

pub returns-clause-steps : goal.returns-clause-steps
returns-clause-steps g c =
    let s = c.serve_metered in
    serves_never g.W.Work.meaning NothingBeyond c.args.house.now s.new.house never_beyond s.ensures.steps

pub returns-clause-on_time : goal.returns-clause-on_time
returns-clause-on_time g c = c.serve_metered.ensures.on_time never_beyond

pub returns-clause-paced : goal.returns-clause-paced
returns-clause-paced g c = c.serve_metered.ensures.paced
