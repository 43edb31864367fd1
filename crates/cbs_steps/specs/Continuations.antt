-- The steps that follow a history, and where each of them is allowed.
use Rattle.std.specs.Prelude.{◌≡◌, ℕ, ◌<◌, true, List, [], ◌∷◌}
use Rattle.cbs_job.specs.Work.{Meaning}
use Rattle.cbs_rules.specs.Rules.{clock_end}
use Rattle.cbs_steps.specs.Faces.{face_at, is_active}
use Rattle.cbs_steps.specs.History.{World, History, ◌⊕◌, faces, world_after}
use Rattle.cbs_steps.specs.Quiet.{IsAtRest, IsIdleSpan}
use Rattle.cbs_steps.specs.declared.step.Step.{Step}
use Rattle.cbs_steps.specs.declared.step.Step.TheVariants.{Submit, Run, Advance, Close, Charge}

module _ {W : Type 0} where
  infixl 60 ◌⊕⊕◌
  -- the history M, followed by the steps in order
  abbrev pub ◌⊕⊕◌ : History W → List (Step W) → History W
  M ⊕⊕ [] = M
  M ⊕⊕ (x ∷ xs) = (M ⊕ x) ⊕⊕ xs

  -- each of the steps is allowed at its place, after M and the steps before it
  abbrev pub EachAllowed : (History W → Step W → Type 0) → History W → List (Step W) → Type 0
  EachAllowed allowed M [] = Unit {0}
  EachAllowed allowed M (x ∷ xs) = allowed M x × EachAllowed allowed (M ⊕ x) xs

  -- some server has an unfinished job
  abbrev pub IsBusy : Meaning W → World W → Type 0
  IsBusy work w = (s : ℕ) × (is_active (face_at (faces work w) s) ≡ true)

  -- an advance by n takes nobody's time, and is needed: a job is unfinished, no server is ready, and n is the idle span
  pub record IsNeeded (work : Meaning W) (w : World W) (n : ℕ) : Type 0 where
    pub busy : IsBusy work w
    pub early : w.now < clock_end
    pub span : IsIdleSpan work w n

  -- a run that is not idle: a job is unfinished, a server is ready, and the clock is not at its end
  pub record IsUseful (work : Meaning W) (w : World W) : Type 0 where
    pub busy : IsBusy work w
    pub early : w.now < clock_end
    pub ready : ¬ IsAtRest work w

  -- where a step of a drain is allowed: a run if a server is ready, else an advance by the idle span
  abbrev pub MayDrain : Meaning W → History W → Step W → Type 0
  MayDrain work M (Submit s job) = ⊥
  MayDrain work M Run = IsUseful work (world_after work M)
  MayDrain work M (Advance n) = IsNeeded work (world_after work M) n
  MayDrain work M (Close s) = ⊥
  MayDrain work M (Charge s n) = ⊥
