-- What a unit is charged for what a meter returns.
use Rattle.std.specs.Prelude.{ℕ, zero, suc, ◌≡◌, ◌+◌, ◌-◌, min, List, [], ◌∷◌, ◌++◌}
use Rattle.cbs_job.specs.Work.{Meaning}
use Rattle.cbs_rules.specs.Rules.{clock_end}
use Rattle.cbs_steps.specs.Continuations.{◌⊕⊕◌}
use Rattle.cbs_steps.specs.History.{History, world_after, reply_in}
use Rattle.cbs_steps.specs.declared.reply.Ran.{Ran}
use Rattle.cbs_steps.specs.declared.reply.Ran.TheVariants as ran
use Rattle.cbs_steps.specs.declared.reply.Reply.TheVariants as reply
use Rattle.cbs_steps.specs.declared.step.Step.{Step}
use Rattle.cbs_steps.specs.declared.step.Step.TheVariants.{Submit, Run, Advance, Close, Charge}

-- How many ticks a unit is charged. It began at tick `start` and took `beyond` ticks after its first. It is charged as
-- many of these as the clock can hold
abbrev pub ticks_charged : ℕ → ℕ → ℕ
ticks_charged start beyond = min beyond (clock_end - (start + 1))

-- a value that did not change, if no unit ran, by the result of a run
abbrev pub IsSameUnlessUnit : {T : Type 0} → Ran → T → T → Type 0
IsSameUnlessUnit ran.Idle old new = new ≡ old
IsSameUnlessUnit ran.ClockEnd old new = new ≡ old
IsSameUnlessUnit (ran.Unit s q) old new = Unit {0}
IsSameUnlessUnit (ran.Done c) old new = Unit {0}

module _ {W : Type 0} where
  -- the steps that charge server s so many ticks: one step, or none for 0 ticks
  abbrev pub charge_steps : ℕ → ℕ → List (Step W)
  charge_steps s zero = []
  charge_steps s (suc n) = Charge s (suc n) ∷ []

  -- a unit of server s that began at tick `start` was paid for: by a charge of what the meter returned
  pub record IsUnitPaid (may : ℕ → ℕ → Type 0) (start s : ℕ) (paid : List (Step W)) : Type 0 where
    pub beyond : ℕ
    pub told : may s beyond
    pub charged : paid ≡ charge_steps s (ticks_charged start beyond)

  -- the result of a run that began at tick `start` was paid for: a unit by its charge, and nothing if no unit ran
  abbrev pub IsRunPaid : (ℕ → ℕ → Type 0) → ℕ → Ran → List (Step W) → Type 0
  IsRunPaid may start ran.Idle paid = paid ≡ []
  IsRunPaid may start ran.ClockEnd paid = paid ≡ []
  IsRunPaid may start (ran.Unit s q) paid = IsUnitPaid may start s paid
  IsRunPaid may start (ran.Done c) paid = IsUnitPaid may start c.server paid

  -- the next run after M had some result, and was paid for by these steps
  pub record IsPaidAfter (work : Meaning W) (may : ℕ → ℕ → Type 0) (M : History W) (paid : List (Step W)) : Type 0 where
    pub told : Ran
    pub answer : reply.Ran told ≡ reply_in work M Run
    pub pays : IsRunPaid may (world_after work M).now told paid

  -- a move after M of a house with such a meter: one step that a rule allows there, and after a run its payment
  abbrev pub IsMove : Meaning W → (ℕ → ℕ → Type 0) → (History W → Step W → Type 0) → History W → List (Step W) → Type 0
  IsMove work may allowed M [] = ⊥
  IsMove work may allowed M (Submit s job ∷ xs) = allowed M (Submit s job) × (xs ≡ [])
  IsMove work may allowed M (Run ∷ paid) = allowed M Run × IsPaidAfter work may M paid
  IsMove work may allowed M (Advance n ∷ xs) = allowed M (Advance n) × (xs ≡ [])
  IsMove work may allowed M (Close s ∷ xs) = allowed M (Close s) × (xs ≡ [])
  IsMove work may allowed M (Charge s n ∷ xs) = ⊥

  -- moves after M, one after another
  abbrev pub AreMoves : Meaning W → (ℕ → ℕ → Type 0) → (History W → Step W → Type 0) → History W → List (List (Step W)) → Type 0
  AreMoves work may allowed M [] = Unit {0}
  AreMoves work may allowed M (m ∷ ms) = IsMove work may allowed M m × AreMoves work may allowed (M ⊕⊕ m) ms

  -- the steps of all moves, in order
  abbrev pub all_steps : List (List (Step W)) → List (Step W)
  all_steps [] = []
  all_steps (m ∷ ms) = m ++ all_steps ms
