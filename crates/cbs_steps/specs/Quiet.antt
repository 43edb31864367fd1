-- When a step takes nobody's time.
use Rattle.std.specs.Prelude.{◌≡◌, ℕ, ◌+◌, ◌-◌, ◌≤◌, ◌<◌, false, List, [], ◌∷◌, None}
use Rattle.std.specs.List.{AllByRecursion}
use Rattle.cbs_job.specs.Work.{Meaning}
use Rattle.cbs_rules.specs.Rules.{clock_end}
use Rattle.cbs_steps.specs.Faces.{is_ready}
use Rattle.cbs_steps.specs.History.{World, Setup, History, faces, ticks, after, world_after, charge_refusal}
use Rattle.cbs_steps.specs.Replies.{grown}
use Rattle.cbs_steps.specs.declared.reply.Reply.{Reply}
use Rattle.cbs_steps.specs.declared.step.Step.{Step}
use Rattle.cbs_steps.specs.declared.step.Step.TheVariants.{Advance, Charge}

module _ {W : Type 0} where
  -- no server is ready
  abbrev pub IsAtRest : Meaning W → World W → Type 0
  IsAtRest work w = AllByRecursion (λ f. is_ready f ≡ false) (faces work w)

  -- an advance by n is quiet: no server is ready before its last tick
  abbrev pub IsQuiet : Meaning W → World W → ℕ → Type 0
  IsQuiet work w n = (m : ℕ) → m < n → IsAtRest work (ticks m w)

  -- no server is ready, and n is the greatest number of ticks up to the clock's end by which an advance is quiet
  pub record IsIdleSpan (work : Meaning W) (w : World W) (n : ℕ) : Type 0 where
    pub at_rest : IsAtRest work w
    pub within : n ≤ clock_end - w.now
    pub quiet : IsQuiet work w n
    pub greatest : (k : ℕ) → k ≤ clock_end - w.now → IsQuiet work w k → k ≤ n

  -- a step that advances quietly: no advance, a refused advance, or a quiet one
  abbrev pub IsQuietAdvance : Meaning W → World W → Step W → Type 0
  IsQuietAdvance work w (Advance n) = w.now + n ≤ clock_end → IsQuiet work w n
  IsQuietAdvance work w _ = Unit {0}

  -- a step that takes nobody's time: it advances quietly, and charges nothing
  abbrev pub IsQuietStep : Meaning W → World W → Step W → Type 0
  IsQuietStep work w (Charge s n) = charge_refusal w s n ≡ None → n ≡ 0
  IsQuietStep work w x = IsQuietAdvance work w x

  -- a step that takes nobody's time if it comes next after M
  abbrev pub IsQuietAfter : Meaning W → History W → Step W → Type 0
  IsQuietAfter work M x = IsQuietStep work (world_after work M) x

  -- a step that advances quietly if it comes next after M
  abbrev pub IsQuietAdvanceAfter : Meaning W → History W → Step W → Type 0
  IsQuietAdvanceAfter work M x = IsQuietAdvance work (world_after work M) x

  -- each step of a list, the newest first, takes nobody's time at its place
  abbrev pub AreQuiet : Meaning W → Setup → List (Step W) → Type 0
  AreQuiet work setup [] = Unit {0}
  AreQuiet work setup (x ∷ M) = AreQuiet work setup M × IsQuietStep work (after work setup M) x

  -- each step of a list, the newest first, advances quietly at its place
  abbrev pub AdvanceQuietly : Meaning W → Setup → List (Step W) → Type 0
  AdvanceQuietly work setup [] = Unit {0}
  AdvanceQuietly work setup (x ∷ M) = AdvanceQuietly work setup M × IsQuietAdvance work (after work setup M) x

  -- each of the steps may stand at its place, after M and the steps before it, whose replies are given
  abbrev pub EachPlaced : (History W → Step W → Type 0) → History W → List (Step W) → List (Reply W) → Type 0
  EachPlaced may M [] rs = Unit {0}
  EachPlaced may M (x ∷ xs) [] = Unit {0}
  EachPlaced may M (x ∷ xs) (r ∷ rs) = may M x × EachPlaced may (grown M x r) xs rs

  -- each of the steps takes nobody's time at its place
  abbrev pub EachQuiet : Meaning W → History W → List (Step W) → List (Reply W) → Type 0
  EachQuiet work M xs rs = EachPlaced (IsQuietAfter work) M xs rs

  -- each of the steps advances quietly at its place
  abbrev pub EachAdvancesQuietly : Meaning W → History W → List (Step W) → List (Reply W) → Type 0
  EachAdvancesQuietly work M xs rs = EachPlaced (IsQuietAdvanceAfter work) M xs rs
