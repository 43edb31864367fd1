use Rattle.std.proofs.Common.{◌≡◌, take}
use Rattle.cbsrun_chart.specs.Jobs.{completions}
use Rattle.cbsrun_chart.proofs.jobs.completions_of.Given as goal

-- the ends of the first jobs
abbrev pub invariant-loop-job : goal.invariant-loop-job
invariant-loop-job l = l.ticks.items ≡ completions l.window (take l.job-index l.jobs)
