use Rattle.std.proofs.Common.{◌≡◌, ◌≤◌, length}
use Rattle.std.specs.Prelude.{drop}
use Rattle.cbsrun_runs.specs.Loads.{within_of}
use Rattle.cbsrun_runs.proofs.within.within_of.Given as goal

abbrev pub decreases-loop-place : goal.decreases-loop-place
decreases-loop-place l = l.place

-- the range of the sources from a place on
abbrev pub invariant-loop-place : goal.invariant-loop-place
invariant-loop-place l = record { rest : l.range ≡ within_of l.server (drop l.place l.sources); within : l.place ≤ length l.sources }
