-- The deadline of a server: that it has had its first one (it is above 0), and how late it may become.
use Rattle.std.proofs.Common.{ℕ, ◌+◌, ◌≤◌, ◌<◌, arith}
use Rattle.std.proofs.lemmas.Bool.Decides.{nat_tests}
use Rattle.cbs_rate.specs.Rate.{Rate, IsRate}
use Rattle.cbs_rules.specs.Rules.{State, after_arrival, after_charge, after_unit, after_replenishment}
use Rattle.cbs_rules.specs.declared.mode.Mode.{Mode}
use Rattle.cbs_rules.specs.declared.mode.Mode.TheVariants.{Soft, Throttled}

-- after an arrival a server has had its first deadline
pub begun_after_arrival : (mode : Mode) (r : Rate) (now : ℕ) (s : State) → IsRate r.budget r.period → 0 < (after_arrival mode r now s).deadline
begun_after_arrival mode r now s ok = let b = ok.some in let c = ok.within in grind (arith, nat_tests)

-- a unit leaves a server its deadline, or postpones it
pub begun_after_unit : (mode : Mode) (r : Rate) (s : State) → 0 < s.deadline → 0 < (after_unit mode r s).deadline
begun_after_unit Soft r s begun = grind (arith, nat_tests)
begun_after_unit Throttled r s begun = grind (arith, nat_tests)

-- and so does a charge
pub begun_after_charge : (mode : Mode) (r : Rate) (n : ℕ) (s : State) → 0 < s.deadline → 0 < (after_charge mode r n s).deadline
begun_after_charge Soft r n s begun = grind (arith, nat_tests)
begun_after_charge Throttled r n s begun = grind (arith, nat_tests)

-- and a replenishment
pub begun_after_replenishment : (r : Rate) (now : ℕ) (s : State) → 0 < s.deadline → 0 < (after_replenishment r now s).deadline
begun_after_replenishment r now s begun = grind (arith, nat_tests)

-- an arrival puts the deadline at most a period from now, if it was not later already
pub deadline-arrived-le : (mode : Mode) (r : Rate) (now bound : ℕ) (s : State) → s.deadline ≤ bound → now + r.period ≤ bound
    → (after_arrival mode r now s).deadline ≤ bound
deadline-arrived-le mode r now bound s h i = grind (arith, nat_tests)

-- a unit postpones the deadline by a period at most
pub deadline-consumed-le : (mode : Mode) (r : Rate) (s : State) → (after_unit mode r s).deadline ≤ s.deadline + r.period
deadline-consumed-le Soft r s = grind (arith, nat_tests)
deadline-consumed-le Throttled r s = grind (arith, nat_tests)

-- a replenishment postpones a deadline that has come, by one period: to at most a period from now
pub deadline-replenished-le : (r : Rate) (now bound : ℕ) (s : State) → s.deadline ≤ bound → now + r.period ≤ bound
    → (after_replenishment r now s).deadline ≤ bound
deadline-replenished-le r now bound s h i = grind (arith, nat_tests)
