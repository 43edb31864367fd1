-- By how much steps move the clock.
use Rattle.std.proofs.Common.{◌≡◌, ◌≤◌, ◌+◌, ℕ, zero, suc, Bool, true, false, leb, if◌then◌else◌, List, [], ◌∷◌, Option, Some, None, refl, arith, inl, inr}
use Rattle.std.proofs.lemmas.Bool.{cases_lt}
use Rattle.cbs_job.specs.Work.{Meaning}
use Rattle.cbs_rules.specs.Rules.{clock_end}
use Rattle.cbs_lists.specs.Lists.{changed_at}
use Rattle.cbs_steps.specs.Accounts.{account_with_charge}
use Rattle.cbs_steps.specs.Continuations.{◌⊕⊕◌}
use Rattle.cbs_steps.specs.Faces.{submit_refusal, close_refusal}
use Rattle.cbs_steps.specs.History.{World, History, ◌⊕◌, faces, tick, ticks, runner, after_submit, after_run, after_advance, after_charging, after_closing, charge_refusal, let_go, world_after}
use Rattle.cbs_steps.specs.declared.error.CoreError.{CoreError}
use Rattle.cbs_steps.specs.declared.step.Step.{Step}
use Rattle.cbs_steps.specs.declared.step.Step.TheVariants.{Submit, Run, Advance, Close, Charge}
use Rattle.cbs_core.specs.Agreement.{Follows, HasHistory}
use Rattle.cbs_core.specs.Held.{CoreHeld}
use Rattle.cbs_clients.specs.Turns.{ArePolls}

module _ {W : Type 0} where
  -- by how many ticks a step moves the clock at most
  abbrev pub ticks_of : Step W → ℕ
  ticks_of (Submit s job) = 0
  ticks_of Run = 1
  ticks_of (Advance n) = n
  ticks_of (Close s) = 0
  ticks_of (Charge s n) = n

  -- the same of some steps
  abbrev pub ticks_of_all : List (Step W) → ℕ
  ticks_of_all [] = 0
  ticks_of_all (x ∷ xs) = ticks_of x + ticks_of_all xs

  ticks_now : (n : ℕ) (w : World W) → (ticks n w).now ≡ w.now + n
  unfolding ticks
  ticks_now zero w = omega arith
  ticks_now (suc n) w = let h = ticks_now n (tick w) in omega (arith, h)

  submit_now : (work : Meaning W) (w : World W) (s : ℕ) (job : W) (o : Option CoreError) → (after_submit work w s job o).now ≡ w.now
  submit_now work w s job None = refl
  submit_now work w s job (Some e) = refl

  closing_now : (w : World W) (s : ℕ) (o : Option CoreError) → (after_closing w s o).now ≡ w.now
  closing_now w s None = refl
  closing_now w s (Some e) = refl

  run_now : (w : World W) (o : Option ℕ) → (after_run w o).now ≤ w.now + 1
  run_now w None = omega arith
  run_now w (Some s) = omega arith

  advance_now : (w : World W) (n : ℕ) → (after_advance w n).now ≤ w.now + n
  advance_now w zero = omega arith
  advance_now w (suc n) = let e = ticks_now (suc n) (let_go w) in omega (arith, e)

  advanced_now : (w : World W) (n : ℕ) (granted : Bool) → (if granted then after_advance w n else w).now ≤ w.now + n
  advanced_now w n true = advance_now w n
  advanced_now w n false = omega arith

  charge_now : (w : World W) (s n : ℕ) (o : Option CoreError) → (after_charging w s n o).now ≤ w.now + n
  charge_now w s zero None = omega arith
  charge_now w s (suc n) None = let e = ticks_now (suc n) (record w { accounts = changed_at (account_with_charge (suc n)) w.accounts s }) in omega (arith, e)
  charge_now w s n (Some e) = omega arith

  -- a step moves the clock by no more than its ticks
  step_now : (work : Meaning W) (M : History W) (x : Step W) → (world_after work (M ⊕ x)).now ≤ (world_after work M).now + ticks_of x
  step_now work M (Submit s job) =
      let w = world_after work M in let e = submit_now work w s job (submit_refusal M.setup.backlog (faces work w) s) in omega (arith, e)
  step_now work M Run = let w = world_after work M in run_now w (runner work w)
  step_now work M (Advance n) = let w = world_after work M in advanced_now w n (leb (w.now + n) clock_end)
  step_now work M (Close s) = let w = world_after work M in let e = closing_now w s (close_refusal (faces work w) s) in omega (arith, e)
  step_now work M (Charge s n) = let w = world_after work M in charge_now w s n (charge_refusal w s n)

  steps_now : (work : Meaning W) (M : History W) (xs : List (Step W)) → (world_after work (M ⊕⊕ xs)).now ≤ (world_after work M).now + ticks_of_all xs
  steps_now work M [] = omega arith
  steps_now work M (x ∷ xs) = let a = step_now work M x in let b = steps_now work (M ⊕ x) xs in omega (arith, a, b)

  -- polls take no tick
  pub polls_take : (first n : ℕ) (xs : List (Step W)) → ArePolls first n xs → ticks_of_all xs ≡ 0
  polls_take first n [] p = refl
  polls_take first n (Submit s job ∷ xs) p = let h = polls_take (s + 1) n xs p.2 in omega (arith, h)
  polls_take first n (Close s ∷ xs) p = let h = polls_take (s + 1) n xs p.2 in omega (arith, h)
  polls_take first n (Run ∷ xs) p = absurd p
  polls_take first n (Advance m ∷ xs) p = absurd p
  polls_take first n (Charge t m ∷ xs) p = absurd p

  -- so does a core that follows by them
  pub core_now : (work : Meaning W) (a b : CoreHeld W) (xs : List (Step W)) → HasHistory work a → Follows work a b xs → b.clock ≤ a.clock + ticks_of_all xs
  core_now work a b xs history follows = elim (cases_lt (a.clock + ticks_of_all xs) b.clock) [
    | inr ge ↦ ge
    | inl past ↦ absurd (history (λ M agrees.
        let before = agrees.world.clock in
        let after = (follows M agrees).world.clock in
        let h = steps_now work M xs in absurd (omega (arith, before, after, h, past))))
  ]
