use Rattle.std.proofs.Common.{◌∙◌, ap}
use Rattle.std.specs.Prelude.{slice_get}
use Rattle.cbs_steps.specs.Faces.{view_reply}
use Rattle.cbs_steps.proofs.OnTime.{view_in_time}
use Rattle.cbs_steps.proofs.PacedWorlds.{view_late}
use Rattle.cbs_core.proofs.LawfulCores.{admitted_by}
use Rattle.cbs_core.proofs.OnTimeCores.{agreed_paced}
use Rattle.cbs_core.proofs.executor.Core.view.Goals as goal

pub returns-clause-view : goal.returns-clause-view
returns-clause-view g c = λ M agrees. c.view.ensures ∙ ap (λ fs. view_reply (slice_get fs c.args.server)) (rw (← c.self.view_is) at agrees.world).shown

pub returns-clause-in_time : goal.returns-clause-in_time
returns-clause-in_time g c = λ M agrees on.
    view_in_time g.W.Work.meaning M (admitted_by g.W.Work.meaning c.self.view_is c.self.invariant agrees) on c.args.server c.view.result (returns-clause-view g c M agrees)

pub returns-clause-late_by : goal.returns-clause-late_by
returns-clause-late_by g c = λ on M agrees.
    let work = g.W.Work.meaning in
    view_late work M (admitted_by work c.self.view_is c.self.invariant agrees) (agreed_paced work M agrees on) c.args.server c.view.result
    (returns-clause-view g c M agrees)
