use Rattle.std.proofs.Common.{length}
use denote.Text.{Utf8}
use denote.Shadow.{shadow}
use Rattle.cbsrun_faults.proofs.lines.below_header.Given as goal

abbrev pub invariant-loop-table : goal.invariant-loop-table
invariant-loop-table l = shadow (Utf8 l.rest)

abbrev pub decreases-loop-table : goal.decreases-loop-table
decreases-loop-table l = length l.rest
