-- What each step makes of the clock.
use Rattle.std.proofs.Common.{◌≡◌, ℕ, zero, suc, ◌+◌, ◌≤◌, ◌<◌, true, leb, arith, refl, ap, Option, Some, None}
use Rattle.std.proofs.lemmas.Bool.Decides.{nat_tests}
use Rattle.cbs_job.specs.Work.{Meaning}
use Rattle.cbs_rules.specs.Rules.{clock_end}
use Rattle.cbs_steps.specs.Faces.{submit_refusal}
use Rattle.cbs_steps.specs.History.{World, faces, runner, after_submit, after_run, after_advance, charge_refusal, next}
use Rattle.cbs_steps.specs.Quiet.{IsAtRest, IsIdleSpan}
use Rattle.cbs_steps.specs.declared.error.CoreError.{CoreError}
use Rattle.cbs_steps.specs.declared.step.Step.TheVariants.{Submit, Run, Advance, Charge}
use Rattle.cbs_steps.proofs.Laws.{run_later, advance_later}
use Rattle.cbs_steps.proofs.Running.{advance_jumps, charge_jumps}

module _ {W : Type 0} (work : Meaning W) where
  -- an advance by n ticks moves the clock on by n
  advanced-now : (w : World W) (n : ℕ) → (after_advance w n).now ≡ w.now + n
  advanced-now w zero = omega arith
  advanced-now w (suc n) = ap (λ (v : World W). v.now) (advance_jumps w (suc n) (omega arith))

  -- the step moves the clock on by n, if it is not refused
  pub advance-now : (backlog : ℕ) (w : World W) (n : ℕ) → w.now + n ≤ clock_end → (next work backlog w (Advance n)).now ≡ w.now + n
  advance-now backlog w n within =
      let t : leb (w.now + n) clock_end ≡ true = grind (arith, nat_tests) in
      rw t (advanced-now w n)

  -- a charge moves the clock on by its ticks
  pub charge-now : (backlog : ℕ) (w : World W) (s n : ℕ) → 0 < n → charge_refusal w s n ≡ None → (next work backlog w (Charge s n)).now ≡ w.now + n
  charge-now backlog w s n some granted = rw (granted, charge_jumps w s n some) refl

  -- a submit does not move the clock
  stands : (w : World W) (s : ℕ) (job : W) (o : Option CoreError) → (after_submit work w s job o).now ≡ w.now
  stands w s job None = refl
  stands w s job (Some e) = refl

  -- the step of a submit does not move the clock
  pub submit-now : (backlog : ℕ) (w : World W) (s : ℕ) (job : W) → (next work backlog w (Submit s job)).now ≡ w.now
  submit-now backlog w s job = stands w s job (submit_refusal backlog (faces work w) s)

  -- a run moves the clock on by at most one
  one_at_most : (w : World W) (o : Option ℕ) → (after_run w o).now ≤ w.now + 1
  one_at_most w None = omega arith
  one_at_most w (Some s) = omega arith

  -- a run moves the clock on by one if a server is ready
  pub run-now : (backlog : ℕ) (w : World W) → ¬ IsAtRest work w → w.now < clock_end → (next work backlog w Run).now ≡ w.now + 1
  run-now backlog w busy early =
      let most = one_at_most w (runner work w) in
      let least = run_later work backlog w busy early in
      omega arith

  -- an idle span has at least one tick before the clock's end
  pub span_some : (w : World W) (n : ℕ) → IsIdleSpan work w n → w.now < clock_end → 0 < n
  span_some w n span early =
      let within = span.within in
      let e = advance-now 0 w n (omega arith) in
      let later = advance_later work 0 w n span early in
      omega arith
