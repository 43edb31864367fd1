-- Hard tasks: jobs of at most one budget each, at least a period apart.
use Rattle.std.specs.Prelude.{◌≡◌, ℕ, ◌+◌, ◌≤◌, eqb, if◌then◌else◌, List, [], ◌∷◌, Option, Some, None}
use Rattle.cbs_job.specs.Work.{Meaning}
use Rattle.cbs_steps.specs.Faces.{submit_refusal}
use Rattle.cbs_steps.specs.History.{World, Setup, History, account, faces, after, world_after}
use Rattle.cbs_steps.specs.Laws.{account_in}
use Rattle.cbs_steps.specs.Promises.{when, IsJobOf, IsFinished}
use Rattle.cbs_steps.specs.Quiet.{AreQuiet}
use Rattle.cbs_steps.specs.declared.error.CoreError.{CoreError}
use Rattle.cbs_steps.specs.declared.step.Step.{Step}
use Rattle.cbs_steps.specs.declared.step.Step.TheVariants.{Submit}

-- the later tick if a submit is accepted, else the tick before
abbrev pub slot_submitted : ℕ → ℕ → Option CoreError → ℕ
slot_submitted before later None = later
slot_submitted before later (Some e) = before

module _ {W : Type 0} where
  -- the slot after one more step: only an accepted submit to s changes which job of s is the last
  abbrev pub slot_next : Meaning W → ℕ → World W → ℕ → ℕ → Step W → ℕ
  slot_next work backlog w s before (Submit t job) =
      if eqb t s then slot_submitted before (w.now + (account w.accounts t).terms.reservation.period) (submit_refusal backlog (faces work w) t) else before
  slot_next work backlog w s before _ = before

  -- the tick one period after the last job that server s accepted came; 0 before the first job
  abbrev pub slot : Meaning W → Setup → ℕ → List (Step W) → ℕ
  slot work setup s [] = 0
  slot work setup s (x ∷ M) = slot_next work setup.backlog (after work setup M) s (slot work setup s M) x

  -- If the step x after M gives server s a job, the job has at most one budget of units. It comes at least a period
  -- after the job before it
  abbrev pub IsHardStep : Meaning W → Setup → ℕ → List (Step W) → Step W → Type 0
  IsHardStep work setup s M (Submit t job) = t ≡ s → submit_refusal setup.backlog (faces work (after work setup M)) t ≡ None
      → (work.left job ≤ (account (after work setup M).accounts t).terms.reservation.budget) × (slot work setup s M ≤ (after work setup M).now)
  IsHardStep work setup s M _ = Unit {0}

  -- the jobs of server s are a hard task
  abbrev pub IsHard : Meaning W → Setup → ℕ → List (Step W) → Type 0
  IsHard work setup s [] = Unit {0}
  IsHard work setup s (x ∷ M) = IsHard work setup s M × IsHardStep work setup s M x

  -- each job of a hard task is finished one period after it came, whatever the others are asked for
  abbrev pub KeepsHard : Meaning W → History W → Type 0
  KeepsHard work N = AreQuiet work N.setup N.steps → (K M : List (Step W)) (s : ℕ) (job : W) → IsJobOf work N K M s job
      → IsHard work N.setup s (Submit s job ∷ M)
      → (world_after work (when N M)).now + (account_in work (when N M) s).terms.reservation.period ≤ (world_after work N).now → IsFinished work N M s
