use Rattle.cbs_hindsight.proofs.Hindsight.{hindsight_kept, effective_kept, has_cut}
use Rattle.cbs_hindsight.proofs.theorem.all_end_early.Goals as goal

pub returns-clause-hindsight : goal.returns-clause-hindsight
returns-clause-hindsight g c = hindsight_kept g.W.Work.meaning

pub returns-clause-some : goal.returns-clause-some
returns-clause-some g c = has_cut g.W.Work.meaning g.met.W.Work.lowers

pub returns-clause-effective : goal.returns-clause-effective
returns-clause-effective g c = effective_kept g.W.Work.meaning
