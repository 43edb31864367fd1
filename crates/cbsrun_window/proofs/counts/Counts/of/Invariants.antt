use Rattle.std.proofs.Common.{◌≡◌, take}
use Rattle.cbsrun_window.specs.Counts.{counts_of}
use Rattle.cbsrun_window.proofs.counts.Counts.of.Given as goal

-- the counts of the first stretches
abbrev pub invariant-loop-stretch : goal.invariant-loop-stretch
invariant-loop-stretch l = l.counts ≡ counts_of l.from l.to (take l.stretch-index l.stretches)
