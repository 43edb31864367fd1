use Rattle.cbs_pacer.proofs.Ahead.{whole_time}
use Rattle.cbs_pacer.proofs.pacer.Pacer.done.Goals as goal

pub returns-clause-pays : goal.returns-clause-pays
returns-clause-pays g c = rw (← whole_time c.args.reading c.args.self.now.pace) c.done_measured.ensures.pays

pub returns-clause-timed : goal.returns-clause-timed
returns-clause-timed g c = rw (← whole_time c.args.reading c.args.self.now.pace) c.done_measured.ensures.timed
