use Rattle.cbs_job.proofs.WholeResults.{whole_kept}
use Rattle.cbs_job.proofs.running.Running.step.Goals as goal

pub returns-clause-lower : goal.returns-clause-lower
returns-clause-lower g c = rw (c.step.ensures, ← c.self.view_is) (g.met.W.Work.lowers c.self.inside.work (rw (← c.self.view_is) at c.requires))

pub returns-clause-whole : goal.returns-clause-whole
returns-clause-whole g c =
    let some = rw (← c.self.view_is) at c.requires in
    rw (c.step.ensures, ← c.self.view_is) (whole_kept g.W.Work.meaning g.met.W.Work.lowers c.self.inside.work some)
