use Rattle.std.proofs.Common.{◌≡◌, ℕ, ◌<◌, length, get_or}
use Rattle.cbs_sums.specs.Sums.{share_of}
use Rattle.cbs_sums.proofs.sum.shares.Given as goal

-- the first shares are made
abbrev pub invariant-loop-byte : goal.invariant-loop-byte
invariant-loop-byte l = (length l.shares ≡ 256) × ((b : ℕ) → b < l.byte → get_or l.shares b 0 ≡ share_of b)
