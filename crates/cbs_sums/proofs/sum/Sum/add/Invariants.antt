use Rattle.std.proofs.Common.{◌≡◌, drop}
use Rattle.cbs_sums.specs.Sums.{after}
use Rattle.cbs_sums.proofs.sum.Sum.add.Given as goal

-- the bytes that are left bring the rest
abbrev pub invariant-loop-byte : goal.invariant-loop-byte
invariant-loop-byte l = after l.register (drop l.byte-index l.bytes) ≡ after l.initial.register l.bytes
