-- Each step leads to the same world, if each job is its units.
use Rattle.std.proofs.Common.{◌≡◌, ℕ, zero, suc, ◌+◌, Bool, true, false, leb, List, [], ◌∷◌, ◌++◌, map, Option, Some, None, refl, sym, ap, ◌∙◌}
use Rattle.std.specs.Prelude.{if◌then◌else◌}
use Rattle.std.proofs.lemmas.List.{length-map, map-append}
use Rattle.cbs_job.specs.Work.{Meaning}
use Rattle.cbs_rules.specs.Rules.{clock_end, State}
use Rattle.cbs_lists.specs.Lists.{changed_at}
use Rattle.cbs_lists.proofs.Lists.{map-changed_at}
use Rattle.cbs_steps.specs.Accounts.{Account, face_of, new_account, no_account, account_with_job, account_with_unit, account_with_charge, account_with_replenishment, account_with_close, account_let_go}
use Rattle.cbs_steps.specs.Faces.{arrived, submit_refusal, close_refusal}
use Rattle.cbs_steps.specs.History.{World, History, Setup, account, faces, tick, ticks, start, runner, after_submit, let_go, after_run, after_advance, charge_refusal, after_charging, after_closing, next, after, world_after}
use Rattle.cbs_steps.specs.declared.error.CoreError.{CoreError}
use Rattle.cbs_steps.specs.declared.step.Step.{Step}
use Rattle.cbs_steps.specs.declared.step.Step.TheVariants.{Submit, Run, Advance, Close, Charge}
use Rattle.cbs_units.specs.declared.count.CountJob.{CountJob}
use Rattle.cbs_units.specs.Counting.{counting, counted, counted_step, counted_account, counted_world}
use Rattle.cbs_units.specs.Laws.{KeepsWorld, KeepsFaces, KeepsChoice}
use Rattle.cbs_units.proofs.Accounts.{map_both, map_swap, face_same, faces_same, chosen_same, account_same}

module _ {W : Type 0} (work : Meaning W) where
  -- a tick
  tick_same : (w : World W) → tick (counted_world work w) ≡ counted_world work (tick w)
  tick_same w = ap (λ (xs : List (Account CountJob)). record { now = w.now + 1; accounts = xs })
      (map_swap (counted_account work) (account_with_replenishment (w.now + 1)) (account_with_replenishment (w.now + 1)) w.accounts (λ a. refl))

  -- so many ticks
  ticks_same : (n : ℕ) (w : World W) → ticks n (counted_world work w) ≡ counted_world work (ticks n w)
  unfolding ticks
  ticks_same zero w = refl
  ticks_same (suc n) w = ap (ticks n) (tick_same w) ∙ ticks_same n (tick w)

  -- nobody can be charged any more
  let_go_same : (w : World W) → let_go (counted_world work w) ≡ counted_world work (let_go w)
  let_go_same w = ap (λ (xs : List (Account CountJob)). record { now = w.now; accounts = xs })
      (map_swap (counted_account work) account_let_go account_let_go w.accounts (λ a. refl))

  -- one account changed
  changed_same : (f : Account CountJob → Account CountJob) (g : Account W → Account W) (w : World W) (s : ℕ)
      → f (counted_account work (account w.accounts s)) ≡ counted_account work (g (account w.accounts s))
      → changed_at f (map (counted_account work) w.accounts) s ≡ map (counted_account work) (changed_at g w.accounts s)
  changed_same f g w s e = sym (map-changed_at (counted_account work) g f w.accounts s no_account (sym e))

  -- one more job of a server
  job_same : (now : ℕ) (job : W) (a : Account W) → account_with_job counting now (counted work job) (counted_account work a) ≡ counted_account work (account_with_job work now job a)
  job_same now job a =
      ap (λ (state : State). record (counted_account work a) { accepted = map (counted work) a.accepted ++ counted work job ∷ []; state = state }) (ap (arrived now) (face_same work a))
      ∙ ap (λ (jobs : List CountJob). record (counted_account work a) { accepted = jobs; state = arrived now (face_of work a) }) (sym (map-append (counted work) a.accepted (job ∷ [])))

  -- what each step leaves, by its answer
  submit_same : (w : World W) (s : ℕ) (job : W) (o : Option CoreError) → after_submit counting (counted_world work w) s (counted work job) o ≡ counted_world work (after_submit work w s job o)
  submit_same w s job None = ap (λ (xs : List (Account CountJob)). record { now = w.now; accounts = xs })
      (changed_same (account_with_job counting w.now (counted work job)) (account_with_job work w.now job) w s (job_same w.now job (account w.accounts s)))
  submit_same w s job (Some e) = refl

  run_same : (w : World W) (o : Option ℕ) → after_run (counted_world work w) o ≡ counted_world work (after_run w o)
  run_same w None = refl
  run_same w (Some s) =
      ap (λ (v : World CountJob). tick (record { now = w.now; accounts = changed_at account_with_unit v.accounts s })) (let_go_same w)
      ∙ ap (λ (xs : List (Account CountJob)). tick (record { now = w.now; accounts = xs })) (changed_same account_with_unit account_with_unit (let_go w) s refl)
      ∙ tick_same (record w { accounts = changed_at account_with_unit (let_go w).accounts s })

  advance_same : (w : World W) (n : ℕ) → after_advance (counted_world work w) n ≡ counted_world work (after_advance w n)
  advance_same w zero = refl
  advance_same w (suc n) = rw (let_go_same w) (ticks_same (suc n) (let_go w))

  charging_same : (w : World W) (s n : ℕ) (o : Option CoreError) → after_charging (counted_world work w) s n o ≡ counted_world work (after_charging w s n o)
  charging_same w s zero None = refl
  charging_same w s (suc n) None =
      rw (changed_same (account_with_charge (suc n)) (account_with_charge (suc n)) w s refl)
      (ticks_same (suc n) (record w { accounts = changed_at (account_with_charge (suc n)) w.accounts s }))
  charging_same w s zero (Some e) = refl
  charging_same w s (suc n) (Some e) = refl

  closing_same : (w : World W) (s : ℕ) (o : Option CoreError) → after_closing (counted_world work w) s o ≡ counted_world work (after_closing w s o)
  closing_same w s None = rw (changed_same account_with_close account_with_close w s refl) refl
  closing_same w s (Some e) = refl

  -- why a charge is refused, if it is
  pub charge_refusal_same : (w : World W) (s n : ℕ) → charge_refusal (counted_world work w) s n ≡ charge_refusal w s n
  charge_refusal_same w s n = rw (length-map w.accounts (counted_account work), account_same work w s) refl

  advance_if : (w : World W) (n : ℕ) (b : Bool) → (if b then after_advance (counted_world work w) n else counted_world work w) ≡ counted_world work (if b then after_advance w n else w)
  advance_if w n true = advance_same w n
  advance_if w n false = refl

  -- one step
  next_same : (backlog : ℕ) (w : World W) (x : Step W) → next counting backlog (counted_world work w) (counted_step work x) ≡ counted_world work (next work backlog w x)
  next_same backlog w (Submit s job) = rw (faces_same work w) (submit_same w s job (submit_refusal backlog (faces work w) s))
  next_same backlog w Run = rw (chosen_same work w) (run_same w (runner work w))
  next_same backlog w (Advance n) = advance_if w n (leb (w.now + n) clock_end)
  next_same backlog w (Close s) = rw (faces_same work w) (closing_same w s (close_refusal (faces work w) s))
  next_same backlog w (Charge s n) = rw (charge_refusal_same w s n) (charging_same w s n (charge_refusal w s n))

  start_same : (setup : Setup) → start {W = CountJob} setup ≡ counted_world work (start setup)
  start_same setup = ap (λ (xs : List (Account CountJob)). record { now = 0; accounts = xs }) (sym (map_both new_account (counted_account work) new_account setup.servers (λ t. refl)))

  -- all steps of a list
  after_same : (setup : Setup) (xs : List (Step W)) → after counting setup (map (counted_step work) xs) ≡ counted_world work (after work setup xs)
  after_same setup [] = start_same setup
  after_same setup (x ∷ xs) = rw (after_same setup xs) (next_same setup.backlog (after work setup xs) x)

  -- the worlds are the same
  pub world_same : (M : History W) → KeepsWorld work M
  world_same M = after_same M.setup M.steps

  -- so is what is seen of them
  pub faces_kept : (M : History W) → KeepsFaces work M
  faces_kept M = ap (λ (w : World CountJob). faces counting w) (world_same M) ∙ faces_same work (world_after work M)

  -- and the server of the next Run
  pub choice_same : (M : History W) → KeepsChoice work M
  choice_same M = rw (world_same M, chosen_same work (world_after work M)) refl
