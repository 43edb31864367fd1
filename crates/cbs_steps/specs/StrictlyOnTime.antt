-- Strictly on time: on time by a greater demand. It counts the budget and deadline that a server has, also if the server
-- is throttled. So a throttled server asks for its share of each tick after its deadline, and `OnTime` counts that only
-- from one period later on. It is so as long as nothing is charged.
use Rattle.std.specs.Prelude.{ℕ, ◌+◌, ◌-◌, ◌*◌, min, Bool, ◌||◌, ltb, if◌then◌else◌, List}
use Rattle.cbs_job.specs.Work.{Meaning}
use Rattle.cbs_rate.specs.Rate.{Rate}
use Rattle.cbs_rate.specs.Plan.{share, all_periods}
use Rattle.cbs_rules.specs.Rules.{State}
use Rattle.cbs_steps.specs.Faces.{Face, is_active, reservations}
use Rattle.cbs_steps.specs.History.{World, History, ◌⊕◌, faces, world_after}
use Rattle.cbs_steps.specs.OnTime.{share_until, IsOnTimeBy, IsWorldOnTime}
use Rattle.cbs_steps.specs.Quiet.{IsQuietStep, AreQuiet}
use Rattle.cbs_steps.specs.declared.step.Step.{Step}

-- What a server of this reservation may ask for up to tick x, throttled or not. Before its deadline it is nothing. From
-- then on it is its budget and its share of each tick after the deadline
abbrev pub full_strict_demand : ℕ → Rate → State → ℕ → ℕ
full_strict_demand parts r s x = if ltb x s.deadline then 0 else s.budget * parts + (x - s.deadline) * share parts r

-- What a server may ask for up to tick x, whether it is active or not. An idle, unthrottled server asks for no more
-- than its share from now on
abbrev pub strict_demand_of : ℕ → Rate → ℕ → ℕ → Bool → State → ℕ
strict_demand_of parts r now x active s =
    if active || s.throttled then full_strict_demand parts r s x else min (full_strict_demand parts r s x) (share_until parts r now x)

-- the strict demand of a server up to tick x
abbrev pub strict_demand : ℕ → ℕ → ℕ → Face → ℕ
strict_demand parts now x f = strict_demand_of parts f.terms.reservation now x (is_active f) f.state

-- strictly on time: the strict demands are within the time that is left, with as many parts in a tick as every period
-- divides
abbrev pub IsStrictlyOnTime : ℕ → List Face → Type 0
IsStrictlyOnTime now fs = IsOnTimeBy strict_demand (all_periods (reservations fs)) now fs

module _ {W : Type 0} where
  -- a world that is strictly on time
  abbrev pub IsWorldStrictlyOnTime : Meaning W → World W → Type 0
  IsWorldStrictlyOnTime work w = IsStrictlyOnTime w.now (faces work w)

  -- if each step took nobody's time, so that nothing was charged, all are strictly on time
  abbrev pub KeepsStrictlyOnTime : Meaning W → History W → Type 0
  KeepsStrictlyOnTime work M = AreQuiet work M.setup M.steps → IsWorldStrictlyOnTime work (world_after work M)

  -- if all is strictly on time, and the step x takes nobody's time, all stays strictly on time
  abbrev pub KeepsStrictTime : Meaning W → History W → Step W → Type 0
  KeepsStrictTime work M x = IsQuietStep work (world_after work M) x → IsWorldStrictlyOnTime work (world_after work M)
      → IsWorldStrictlyOnTime work (world_after work (M ⊕ x))

  -- if all is strictly on time, all is on time
  abbrev pub IsStricter : Meaning W → History W → Type 0
  IsStricter work M = IsWorldStrictlyOnTime work (world_after work M) → IsWorldOnTime work (world_after work M)
