use Rattle.cbs_steps.specs.History.{world_after}
use Rattle.cbs_steps.proofs.IdleSpans.{span_is}
use Rattle.cbs_core.proofs.executor.Core.idle_span.Goals as goal

pub returns : goal.returns
returns g c = λ M agrees.
    let inside = rw (← c.self.view_is) at agrees.world in
    span_is g.W.Work.meaning (world_after g.W.Work.meaning M) _ (rw (inside.shown, inside.clock) at c.idle_span.ensures)
