use Rattle.std.proofs.Common.{◌≡◌, ◌-◌}
use Rattle.cbs_sums.specs.Sums.{shifts}
use Rattle.cbs_sums.proofs.sum.share_of.Given as goal

-- the bits that are left bring the rest
abbrev pub invariant-loop : goal.invariant-loop
invariant-loop l = shifts (8 - l.counter) l.register ≡ shifts 8 l.byte
