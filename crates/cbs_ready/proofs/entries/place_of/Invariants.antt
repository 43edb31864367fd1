use Rattle.std.proofs.Common.{◌≡◌, ◌-◌, ◌≤◌, false, eqb, length, take}
use Rattle.std.specs.List.{AllByRecursion}
use Rattle.cbs_ready.specs.declared.entries.Entry.{Entry}
use Rattle.cbs_ready.proofs.entries.place_of.Given as goal

abbrev pub invariant-loop-place : goal.invariant-loop-place
invariant-loop-place l = record {
  within : l.place ≤ length l.entries;
  before : AllByRecursion (λ (e : Entry). eqb e.server l.server ≡ false) (take l.place l.entries);
}

abbrev pub decreases-loop-place : goal.decreases-loop-place
decreases-loop-place l = length l.entries - l.place
