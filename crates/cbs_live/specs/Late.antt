-- What a house shows of a server after one of its units.
use Rattle.std.specs.Prelude.{ℕ, ◌≡◌, ◌<◌, false}
use Rattle.cbs_rate.specs.Rate.{Rate}
use Rattle.cbs_rules.specs.Rules.{State, IsState, after_unit, after_replenishment}
use Rattle.cbs_rules.specs.declared.mode.Mode.{Mode}
use Rattle.cbs_live.specs.declared.late.Told.{Told}

-- the state of a server after one of its units, at the tick after the unit's: a throttled server
-- whose deadline has come is replenished there
abbrev pub state_after : Mode → Rate → ℕ → State → State
state_after mode r now s = after_replenishment r now (after_unit mode r s)

-- This is shown of a server that was in state s, could run, and got a unit. `now` is the tick after
-- the unit's
pub record IsToldAfter (t : Told) (mode : Mode) (r : Rate) (now : ℕ) (s : State) : Type 0 where
  pub state : IsState r s
  pub ready : 0 < s.budget
  pub free : s.throttled ≡ false
  pub whole : t.whole ≡ r.budget
  pub period : t.period ≡ r.period
  pub budget : t.budget ≡ (state_after mode r now s).budget
  pub deadline : t.deadline ≡ (state_after mode r now s).deadline

-- it holds of each state in which the unit may have begun, if this is shown after the unit
abbrev pub OfEachStart : Told → (State → Type 0) → Type 0
OfEachStart t holds =
    (mode : Mode) → (r : Rate) → (now : ℕ) → (s : State) → IsToldAfter t mode r now s → holds s
