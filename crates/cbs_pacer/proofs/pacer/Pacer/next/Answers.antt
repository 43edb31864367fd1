use Rattle.cbs_pacer.proofs.Ahead.{whole_time}
use Rattle.cbs_pacer.proofs.pacer.Pacer.next.Goals as goal

pub returns-clause-paces : goal.returns-clause-paces
returns-clause-paces g c = rw (← whole_time c.args.reading c.args.self.now.pace) c.next_measured.ensures.paces

pub returns-clause-timed : goal.returns-clause-timed
returns-clause-timed g c = rw (← whole_time c.args.reading c.args.self.now.pace) c.next_measured.ensures.timed
