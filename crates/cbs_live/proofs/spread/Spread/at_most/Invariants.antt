use Rattle.std.proofs.Common.{ℕ, ◌≡◌, ◌≤◌, ◌<◌, ◌+◌, ◌*◌, sum, take}
use Rattle.cbs_live.specs.Spreads.{most}
use Rattle.cbs_live.proofs.spread.Spread.at_most.Given as goal

abbrev pub invariant-loop-power : goal.invariant-loop-power
invariant-loop-power l = record {
  found : l.found ≡ sum (take l.power l.self.powers);
  small : l.found ≤ l.power * most;
  before : (k : ℕ) → k < l.power → 1000 * sum (take (k + 1) l.self.powers) < l.wanted;
}
