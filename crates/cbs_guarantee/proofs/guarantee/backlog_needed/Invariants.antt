use Rattle.std.proofs.Common.{◌≡◌, ◌*◌, ◌≤◌, take}
use Rattle.std.specs.Int.{div_ceil}
use Rattle.std.specs.List.{sum_by}
use Rattle.cbs_guarantee.proofs.guarantee.backlog_needed.Given as goal

-- the sum so far
abbrev pub invariant-loop-source : goal.invariant-loop-source
invariant-loop-source l = record {
  sum : l.needed ≡ sum_by (λ source. div_ceil l.within source.every) (take l.source-index l.sources);
  few : l.needed ≤ l.source-index * l.within;
}
