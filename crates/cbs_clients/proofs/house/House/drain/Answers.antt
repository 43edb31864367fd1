use Rattle.cbs_steps.specs.Continuations.{MayDrain}
use Rattle.cbs_host.specs.Meters.{NothingBeyond}
use Rattle.cbs_clients.proofs.Moves.{never_beyond, by_never, drain_quiet}
use Rattle.cbs_clients.proofs.house.House.drain.Goals as goal

pub returns-clause-moves : goal.returns-clause-moves
returns-clause-moves g c =
    let work = g.W.Work.meaning in
    let d = c.drain_metered in
    by_never work NothingBeyond (MayDrain work) c.args.self.now d.new.self 0 never_beyond (drain_quiet work) d.ensures.moves

pub returns-clause-on_time : goal.returns-clause-on_time
returns-clause-on_time g c = c.drain_metered.ensures.on_time never_beyond

pub returns-clause-paced : goal.returns-clause-paced
returns-clause-paced g c = c.drain_metered.ensures.paced
