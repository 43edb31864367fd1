-- Worked examples of a delay that is made up, computed from the definitions. A job is the number of its units.
use Rattle.std.proofs.Common.{◌≡◌, ℕ, ◌-◌, Bool, List, [], ◌∷◌, refl, true, false}
use Rattle.cbs_job.specs.Work.{Meaning}
use Rattle.cbs_rate.specs.Rate.{Rate}
use Rattle.cbs_rate.specs.Plan.{all_periods, total_share}
use Rattle.cbs_rules.specs.declared.mode.Mode.TheVariants.{Soft}
use Rattle.cbs_steps.specs.Accounts.{face_of}
use Rattle.cbs_steps.specs.History.{Setup, account, after, ticks}
use Rattle.cbs_steps.specs.OnTime.{is_late}
use Rattle.cbs_steps.specs.declared.step.Step.{Step}
use Rattle.cbs_steps.specs.declared.step.Step.TheVariants.{Submit, Run, Charge}
use Rattle.cbs_recovery.specs.Recovery.{charged, held}

-- work that is nothing but its units
abbrev units : Meaning ℕ
units = record { left = λ n. n; output = λ n. 0; after = λ n. n - 1 }

abbrev rate : ℕ → ℕ → Rate
rate q t = record { budget = q; period = t }

-- two soft servers, each with 1 tick in 4, so that half of the time is free
abbrev half_free : Setup
half_free = record { servers = record { mode = Soft; reservation = rate 1 4 } ∷ record { mode = Soft; reservation = rate 1 4 } ∷ []; backlog = 4 }

-- server 1 has begun a unit, and server 0 got a job
abbrev begun : List (Step ℕ)
begun = Submit 0 9 ∷ Run ∷ Submit 1 9 ∷ []

-- the unit is charged 6 ticks more
abbrev overrun : List (Step ℕ)
overrun = Charge 1 6 ∷ begun

-- the clock, and the deadline of server 0
abbrev row : List (Step ℕ) → ℕ × ℕ
row M = let w = after units half_free M in (w.now, (account w.accounts 0).state.deadline)

-- whether server 0 is late
abbrev late : List (Step ℕ) → Bool
late M = let w = after units half_free M in is_late w.now (face_of units (account w.accounts 0))

-- The charge began at tick 1, and ends at 7. The deadline of server 0 was 5, so it is late by 2 ticks: by less than 6,
-- less half of the 4 ticks from 1 to 5. With its next unit it is due at 9, by when 4 ticks were free, and at 13, by when 6
-- were: from then on the law says that it is not late. It is not late from 8 on.
rows : (row begun ∷ row overrun ∷ row (Run ∷ overrun) ∷ row (Run ∷ Run ∷ overrun) ∷ []) ≡ (1, 5) ∷ (7, 5) ∷ (8, 9) ∷ (9, 13) ∷ []
unfolding ticks
rows = refl

lateness : (late begun ∷ late overrun ∷ late (Run ∷ overrun) ∷ late (Run ∷ Run ∷ overrun) ∷ []) ≡ false ∷ true ∷ false ∷ false ∷ []
unfolding ticks
lateness = refl

-- The charge holds up those that are due by 5. Server 1 is due at 32 once it is charged, so it holds up nobody who is due
-- by then.
holds : (charged units half_free (Charge 1 6 ∷ []) begun ∷ held units half_free 5 (Charge 1 6 ∷ []) begun ∷ held units half_free 31 (Charge 1 6 ∷ []) begun
    ∷ held units half_free 32 (Charge 1 6 ∷ []) begun ∷ []) ≡ 6 ∷ 6 ∷ 6 ∷ 0 ∷ []
unfolding ticks
holds = refl

-- in 16 parts of a tick, half of which are free
parts : (all_periods (rate 1 4 ∷ rate 1 4 ∷ []) ∷ total_share (rate 1 4 ∷ rate 1 4 ∷ []) ∷ []) ≡ 16 ∷ 8 ∷ []
parts = refl
