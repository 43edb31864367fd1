use Rattle.std.proofs.Common.{◌≡◌, ℕ, ◌++◌, length}
use Rattle.std.specs.Prelude.{All}
use Rattle.std.specs.Vec.Iter.{into_iter_items, into_iter_len}
use Rattle.cbsrun_commands.specs.ResultLines.{jobs_for, listed}
use Rattle.cbsrun_tasks.specs.TaskFiles.{IsFileStep}
use Rattle.cbsrun_commands.proofs.jobs_by_server.jobs_by_server.Given as goal

abbrev pub invariant-loop-step : goal.invariant-loop-step
invariant-loop-step l = record {
  can : goal.iterator-loop-step.can_next l.step-iterator;
  finite : goal.iterator-loop-step.is_finite l.step-iterator;
  count : into_iter_len l.step-iterator ≡ length (into_iter_items l.step-iterator);
  named : All (IsFileStep l.servers) (into_iter_items l.step-iterator);
  lists : length l.lists.items ≡ l.servers;
  so_far : (s : ℕ) → listed l.lists.items s ++ jobs_for s (into_iter_items l.step-iterator) ≡ jobs_for s l.fn.steps.items;
}
