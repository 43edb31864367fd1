use Rattle.std.proofs.Common.{ℕ, List, ◌+◌, ◌++◌, map}
use Rattle.std.specs.Int.{div_ceil}
use Rattle.std.specs.List.{range_with_len}
use Rattle.cbs_guarantee.specs.Sources.{ticks_of}
use Rattle.cbsrun_proposals.specs.Proposals.{IsBestOf}
use Rattle.cbsrun_proposals.proofs.proposal.with_source.Given as goal

abbrev pub invariant-loop-part : goal.invariant-loop-part
invariant-loop-part l =
    (looked : List ℕ) → IsBestOf l.fn.sources l.fn.wanted looked l.fn.best
    → IsBestOf l.fn.sources l.fn.wanted (looked ++ map (λ k. div_ceil (ticks_of l.fn.source) (k + 1)) (range_with_len 0 l.part)) l.best
