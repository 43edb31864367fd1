use Rattle.std.proofs.Math.ListN.{replicate}
use Rattle.cbs_steps.specs.declared.step.Step.TheVariants as step
use Rattle.cbs_units.specs.Counting.{counting}
use Rattle.cbsrun_runs.specs.Steps.{Shows}
use Rattle.cbsrun_runs.proofs.recorded.show_runs.Given as goal

-- the core made the first runs, and the view saw them
abbrev pub invariant-loop-time : goal.invariant-loop-time
invariant-loop-time g l = record {
  ready : g.V.View.ready l.view l.lent;
  shown : Shows counting g.V.View.saw (replicate l._time step.Run) l.fn.core l.core (l.fn.view, l.fn.lent) (l.view, l.lent);
}
