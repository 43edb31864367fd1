use Rattle.std.proofs.Common.{◌≡◌, Some, drop}
use Rattle.std.specs.Prelude.{map}
use Rattle.toml.specs.View.{view}
use Rattle.cbsrun_faults.specs.Refused.{plan_from, plan_of}
use Rattle.cbsrun_faults.proofs.refused.plan_of.Given as goal

-- what is left to admit, from here on, ends as all of them do from the start
abbrev pub invariant-loop-entry : goal.invariant-loop-entry
invariant-loop-entry l =
    (plan_from l.tick (Some l.plan) (map view (drop l.entry-index l.servers)) ≡ plan_of l.tick l.fn.bound (map view l.servers)) × (l.plan.bound ≡ l.fn.bound)
