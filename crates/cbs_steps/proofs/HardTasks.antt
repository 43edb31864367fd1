-- Each job of a hard task is finished a period after it came.
use Rattle.std.proofs.Common.{◌≡◌, ℕ, zero, suc, ◌+◌, ◌*◌, ◌≤◌, ◌<◌, true, eqb, List, [], ◌∷◌, arith, refl, inl, inr, Option, Some, None}
use Rattle.std.specs.Prelude.{max}
use Rattle.std.specs.Int.{div_ceil}
use Rattle.std.proofs.lemmas.Bool.{cases_Bool}
use Rattle.std.proofs.lemmas.Bool.Decides.{nat_tests}
use Rattle.std.proofs.lemmas.Grind.{div_ceil_times}
use Rattle.cbs_job.specs.Work.{Meaning}
use Rattle.cbs_rate.specs.Rate.{Rate}
use Rattle.cbs_rate.specs.Plan.{all_periods}
use Rattle.cbs_steps.specs.Faces.{submit_refusal}
use Rattle.cbs_steps.specs.Accounts.{no_account}
use Rattle.cbs_steps.specs.HardTasks.{slot, slot_submitted, IsHard, KeepsHard}
use Rattle.cbs_steps.specs.History.{Setup, History, account, faces, after}
use Rattle.cbs_steps.specs.Promises.{due, due_from, due_submitted}
use Rattle.cbs_steps.specs.declared.error.CoreError.{CoreError}
use Rattle.cbs_steps.specs.declared.step.Step.{Step}
use Rattle.cbs_steps.specs.declared.step.Step.TheVariants.{Submit, Run, Advance, Close, Charge}
use Rattle.cbs_steps.proofs.Dues.{due_kept}
use Rattle.cbs_lists.proofs.Lists.{AllByRecursion-get}
use Rattle.cbs_steps.proofs.OnTime.{IsAdmitted, given, sound_after}
use Rattle.cbs_steps.proofs.OnTimeSteps.{IsSound}
use Rattle.cbs_steps.proofs.Promises.{place}

-- a job of at most a budget needs one period at most
one_period : (r : Rate) (before slot now units : ℕ) → 0 < r.budget → units ≤ r.budget → before ≤ slot → slot ≤ now
    → due_from r before now units ≤ now + r.period
one_period r before slot now units some small le early = by_periods (div_ceil units r.budget) (div_ceil_times units r.budget some).1
  where
    by_periods : (k : ℕ) → k * r.budget < units + r.budget → max before now + k * r.period ≤ now + r.period
    by_periods zero h = omega arith
    by_periods (suc zero) h = omega arith
    by_periods (suc (suc k)) h = absurd (omega arith)

module _ {W : Type 0} (work : Meaning W) (setup : Setup) (ok : IsAdmitted (given work setup)) (s : ℕ) where
  -- by an accepted or a refused submit
  due-slot_submit : (M : List (Step W)) (t : ℕ) (job : W) (o : Option CoreError) → due work setup s M ≤ slot work setup s M
      → (o ≡ None → (work.left job ≤ (account (after work setup M).accounts t).terms.reservation.budget) × (slot work setup s M ≤ (after work setup M).now))
      → (o ≡ None → 0 < (account (after work setup M).accounts t).terms.reservation.budget)
      → due_submitted (account (after work setup M).accounts t).terms.reservation (due work setup s M) (after work setup M).now (work.left job) o
      ≤ slot_submitted (slot work setup s M) ((after work setup M).now + (account (after work setup M).accounts t).terms.reservation.period) o
  due-slot_submit M t job None le h some =
      let k = h refl in
      one_period (account (after work setup M).accounts t).terms.reservation (due work setup s M) (slot work setup s M)
      (after work setup M).now (work.left job) (some refl) k.0 le k.1
  due-slot_submit M t job (Some e) le h some = le

  -- a hard task's last job is due a period after it came, at the latest
  pub due-slot : (M : List (Step W)) → IsHard work setup s M → due work setup s M ≤ slot work setup s M
  due-slot [] h = omega arith
  due-slot (Submit t job ∷ M) h = elim (cases_Bool (eqb t s)) [
    | inl y ↦
        let e : t ≡ s = grind (arith, nat_tests) in
        rw y (due-slot_submit M t job (submit_refusal setup.backlog (faces work (after work setup M)) t) (due-slot M h.0) (h.1 e)
        (λ k. (AllByRecursion-get (IsSound work (all_periods (given work setup))) (after work setup M).accounts t no_account
        (sound_after work setup M ok).each (place work setup M t job k)).lawful.rate.some))
    | inr n ↦ rw n (due-slot M h.0)
  ]
  due-slot (Run ∷ M) h = due-slot M h.0
  due-slot (Advance n ∷ M) h = due-slot M h.0
  due-slot (Close t ∷ M) h = due-slot M h.0
  due-slot (Charge t n ∷ M) h = due-slot M h.0

module _ {W : Type 0} (work : Meaning W) where
  -- every history keeps its hard tasks
  pub hard_kept : (N : History W) → IsAdmitted (given work N.setup) → KeepsHard work N
  hard_kept N ok = λ quiet K M s job of hard late.
      let d = due-slot work N.setup ok s (Submit s job ∷ M) hard in
      let itself : eqb s s ≡ true = grind (arith, nat_tests) in
      let e : slot work N.setup s (Submit s job ∷ M) ≡ (after work N.setup M).now
      + (account (after work N.setup M).accounts s).terms.reservation.period = rw (itself, of.accepted) in
      due_kept work N ok quiet K M s job of (omega arith)
