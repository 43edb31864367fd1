use Rattle.std.proofs.Common.{◌≡◌, true, false, ◌<◌, ◌-◌}
use Rattle.cbs_rate.specs.Plan.{takes}
use Rattle.cbs_rate.proofs.plan.Plan.greatest_budget.Given as goal

abbrev pub invariant-loop-refused : goal.invariant-loop-refused
invariant-loop-refused l =
    (l.admitted < l.refused) × (0 < l.admitted → takes l.fn.self l.admitted l.fn.period ≡ true)
    × (takes l.fn.self l.refused l.fn.period ≡ false)

abbrev pub decreases-loop-refused : goal.decreases-loop-refused
decreases-loop-refused l = l.refused - l.admitted
