use Rattle.std.proofs.Common.{◌-◌, length, take}
use Rattle.cbs_ready.specs.ReadyList.{IsMoved}
use Rattle.cbs_ready.proofs.entries.put.Given as goal

abbrev pub invariant-loop-place : goal.invariant-loop-place
invariant-loop-place l = IsMoved l.entry (take (length l.fn.entries - 1) l.fn.entries) l.entries l.place

abbrev pub decreases-loop-place : goal.decreases-loop-place
decreases-loop-place l = l.place
