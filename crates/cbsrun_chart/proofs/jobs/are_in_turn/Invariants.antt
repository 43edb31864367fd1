use Rattle.std.proofs.Common.{◌≡◌, take, true}
use Rattle.cbsrun_chart.specs.Jobs.{are_numbered_from}
use Rattle.cbsrun_chart.proofs.jobs.are_in_turn.Given as goal

-- the first jobs
abbrev pub invariant-loop-place : goal.invariant-loop-place
invariant-loop-place l = are_numbered_from l.first.number (take l.place l.jobs) ≡ true
