use Rattle.std.proofs.Common.{◌≡◌, ◌++◌, length}
use Rattle.std.specs.Vec.Iter.{into_iter_items, into_iter_len}
use Rattle.cbsrun_runs.specs.Steps.{Shows}
use Rattle.cbsrun_runs.proofs.steps.show_steps.Given as goal

-- the core made the first steps, and the view saw them
abbrev pub invariant-loop-step : goal.invariant-loop-step
invariant-loop-step g l = record {
  count : into_iter_len l.step-iterator ≡ length (into_iter_items l.step-iterator);
  split : l.fn.steps.items ≡ l.yielded ++ into_iter_items l.step-iterator;
  ready : g.V.View.ready l.view l.lent;
  shown : Shows g.W.Work.meaning g.V.View.saw l.yielded l.fn.core l.core (l.fn.view, l.fn.lent) (l.view, l.lent);
}
