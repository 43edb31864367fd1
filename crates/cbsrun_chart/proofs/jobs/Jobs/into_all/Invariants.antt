use Rattle.std.proofs.Common.{◌≡◌, ◌++◌}
use Rattle.std.specs.Prelude.{filter}
use Rattle.std.specs.VecDeque.{deque_len}
use Rattle.cbsrun_chart.specs.Jobs.{is_shown, jobs_settled}
use Rattle.cbsrun_chart.proofs.jobs.Jobs.into_all.Given as goal

abbrev pub decreases-loop-job : goal.decreases-loop-job
decreases-loop-job l = deque_len l.waiting

-- the jobs that were taken, and those that are still to be taken
abbrev pub invariant-loop-job : goal.invariant-loop-job
invariant-loop-job l =
    l.all.items ++ filter (is_shown l.window) l.waiting.items
    ≡ (jobs_settled l.window l.fn.self).finished ++ filter (is_shown l.window) l.fn.self.waiting
