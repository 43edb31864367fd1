-- Each step that takes nobody's time keeps a world on time, by any demand that is ruled. In one that is on time no server
-- is late.
use Rattle.std.proofs.Common.{◌≡◌, ℕ, zero, suc, ◌+◌, ◌-◌, ◌*◌, ◌≤◌, ◌<◌, Bool, true, false, leb, length, arith, refl, inl, inr, ◌∙◌, Option, Some, None}
use Rattle.std.specs.List.{sum_by, AllByRecursion}
use Rattle.std.proofs.lemmas.Bool.{cases_lt, cases_Bool}
use Rattle.std.proofs.lemmas.Bool.Decides.{nat_tests}
use Rattle.std.proofs.lemmas.List.Sums.{get_or-le-sum_by}
use Rattle.std.proofs.lemmas.Nat.{mul-le}
use Rattle.cbs_job.specs.Work.{Meaning}
use Rattle.cbs_rate.specs.Rate.{Rate}
use Rattle.cbs_rate.specs.Plan.{share}
use Rattle.cbs_rules.specs.Rules.{State, clock_end}
use Rattle.cbs_lists.specs.Lists.{changed_at}
use Rattle.cbs_lists.proofs.Lists.{AllByRecursion-map, AllByRecursion-mapped, AllByRecursion-get, AllByRecursion-changed_at}
use Rattle.cbs_lists.proofs.Sums.{sum_map, sum-mono, sum_changed, sum_changed-le, sum_changed_same}
use Rattle.cbs_steps.specs.Faces.{Face, is_active, is_ready, submit_refusal, close_refusal}
use Rattle.cbs_steps.specs.Accounts.{Account, face_of, no_account, account_with_job, account_with_unit, account_with_replenishment, account_with_close, account_let_go}
use Rattle.cbs_steps.specs.History.{World, account, faces, chosen, tick, ticks, runner, after_submit, after_run, after_closing, after_advance, after_charging, charge_refusal, let_go, next}
use Rattle.cbs_steps.specs.OnTime.{full_demand, demand_of, IsAhead}
use Rattle.cbs_steps.specs.Quiet.{IsAtRest, IsQuiet, IsQuietStep}
use Rattle.cbs_steps.specs.declared.error.CoreError.{CoreError}
use Rattle.cbs_steps.specs.declared.step.Step.{Step}
use Rattle.cbs_steps.specs.declared.step.Step.TheVariants.{Submit, Run, Advance, Close, Charge}
use Rattle.cbs_steps.proofs.DemandLines.{split, asked_from}
use Rattle.cbs_steps.proofs.DemandRules.{IsMoved, IsRuled}
use Rattle.cbs_steps.proofs.Demands.{demand_busy}
use Rattle.cbs_steps.proofs.Faces.{runnable}
use Rattle.cbs_steps.proofs.Histories.{chosen_is_ready, let_go_faces}
use Rattle.cbs_steps.proofs.LawfulServers.{ready_begun, ready_budget}
use Rattle.cbs_steps.proofs.OnTimeSteps.{IsSound, AllSound, ahead_arrived, all_ahead, chosen_least, lines_fit, quiet_let_go, quiet_more, runner_chosen, sound_at, sound_tick, sound_let_go}

module _ {W : Type 0} (work : Meaning W) (P : ℕ) (D : ℕ → Rate → ℕ → ℕ → Bool → State → ℕ) where
  -- the demand D of an account
  abbrev pub asks : ℕ → ℕ → Account W → ℕ
  asks now x a = D P a.terms.reservation now x (is_active (face_of work a)) a.state

  -- on time by this demand, as said of accounts
  pub record IsTimely (w : World W) : Type 0 where
    pub within : (x : ℕ) → w.now ≤ x → sum_by (asks w.now x) w.accounts ≤ (x - w.now) * P
    pub ahead : AllByRecursion (λ a. IsAhead w.now (face_of work a)) w.accounts

module _ {W : Type 0} (work : Meaning W) (P : ℕ) (D : ℕ → Rate → ℕ → ℕ → Bool → State → ℕ) (ruled : IsRuled D) where
  abbrev shares : Account W → ℕ
  shares a = share P a.terms.reservation

  module _ (now x : ℕ) (a : Account W) (ok : IsSound work P a) where
    -- what the rules do to the demand of an account
    moved : IsMoved D P a.terms.reservation now x (is_active (face_of work a)) a.state
    moved = ruled.moved P a.terms.reservation now x (is_active (face_of work a)) a.state ok.divides ok.lawful.rate ok.lawful.state

    -- a job asks for no more
    asks_job : (job : W) → now ≤ x → asks work P D now x (account_with_job work now job a) ≤ asks work P D now x a
    asks_job job early = moved.job (is_active (face_of work (account_with_job work now job a))) a.terms.mode early

    -- a unit of a ready server and a tick ask for a tick less, from the deadline on
    asks_run : is_ready (face_of work a) ≡ true → a.state.deadline ≤ x
        → asks work P D (now + 1) x (account_with_replenishment (now + 1) (account_with_unit a)) + P ≤ asks work P D now x a
    asks_run ready far = moved.run (is_active (face_of work (account_with_unit a))) a.terms.mode ready (ready_begun work a ready ok.lawful) far

    -- and for nothing before
    asks_run_before : is_ready (face_of work a) ≡ true → x < a.state.deadline
        → asks work P D (now + 1) x (account_with_replenishment (now + 1) (account_with_unit a)) ≡ 0
    asks_run_before ready near = moved.run_before (is_active (face_of work (account_with_unit a))) a.terms.mode ready (ready_begun work a ready ok.lawful) near

  -- a submit keeps a world on time
  timely_submit : (w : World W) (s : ℕ) (job : W) (o : Option CoreError) → AllSound work P w → IsTimely work P D w
      → IsTimely work P D (after_submit work w s job o)
  timely_submit w s job None ok on = record {
    within = λ x early.
        let b = on.within x early in
        let c = sum_changed-le (asks work P D w.now x) (asks work P D w.now x) (account_with_job work w.now job) w.accounts s no_account (λ i lt. omega arith)
        (λ lt. asks_job w.now x (account w.accounts s) (sound_at work P w ok s lt) job early) in
        omega arith;
    ahead = AllByRecursion-changed_at (λ a. IsAhead w.now (face_of work a)) (λ a. IsAhead w.now (face_of work a))
        (account_with_job work w.now job) w.accounts s no_account on.ahead (λ a h. h) (ahead_arrived w.now (face_of work (account w.accounts s)));
  }
  timely_submit w s job (Some e) ok on = on

  -- so does a close
  timely_close : (w : World W) (s : ℕ) (o : Option CoreError) → IsTimely work P D w → IsTimely work P D (after_closing w s o)
  timely_close w s None on = record {
    within = λ x early. rw (sum_changed_same (asks work P D w.now x) account_with_close w.accounts s (λ a. refl)) (on.within x early);
    ahead = AllByRecursion-changed_at (λ a. IsAhead w.now (face_of work a)) (λ a. IsAhead w.now (face_of work a)) account_with_close
        w.accounts s no_account on.ahead (λ a h. h) (λ h. h);
  }
  timely_close w s (Some e) on = on

  -- a tick in which no server is ready keeps a world on time
  timely_tick : (w : World W) → AllSound work P w → IsTimely work P D w → IsAtRest work w → IsTimely work P D (tick w)
  timely_tick w ok on rest =
      let rests = AllByRecursion-mapped (λ (f : Face). is_ready f ≡ false) (face_of work) w.accounts rest in
      record {
        within = λ x early.
            let e = sum_map (asks work P D (w.now + 1) x) (account_with_replenishment (w.now + 1)) w.accounts in
            let m = sum-mono (λ a. asks work P D (w.now + 1) x (account_with_replenishment (w.now + 1) a))
            (λ a. (x - (w.now + 1)) * shares a) w.accounts no_account
            (λ i lt. (moved w.now x (account w.accounts i) (sound_at work P w ok i lt)).rest
            (AllByRecursion-get (λ a. is_ready (face_of work a) ≡ false) w.accounts i no_account rests lt)
            (AllByRecursion-get (λ a. IsAhead w.now (face_of work a)) w.accounts i no_account on.ahead lt)) in
            let f = lines_fit work P w (x - (w.now + 1)) ok in
            rw e (omega arith);
        ahead = all_ahead work P (w.now + 1) w.accounts;
      }

  -- a unit of the chosen server, and the tick after it, keep a world on time
  timely_run_one : (w : World W) (s : ℕ) → chosen work w ≡ Some s → AllSound work P w → IsTimely work P D w
      → IsTimely work P D (tick (record w { accounts = changed_at account_with_unit w.accounts s }))
  timely_run_one w s chose ok on =
      let best = chosen_least work P w s chose in
      let ready = chosen_is_ready work w s chose in
      record {
        within = λ x early.
            let f = λ (a : Account W). asks work P D (w.now + 1) x (account_with_replenishment (w.now + 1) a) in
            let e = sum_map (asks work P D (w.now + 1) x) (account_with_replenishment (w.now + 1)) (changed_at account_with_unit w.accounts s) in
            elim (cases_lt x (account w.accounts s).state.deadline) [
              | inl near ↦
                  let m : sum_by f (changed_at account_with_unit w.accounts s) ≤ sum_by (λ a. (x - (w.now + 1)) * shares a) w.accounts =
                  sum_changed-le f (λ a. (x - (w.now + 1)) * shares a) account_with_unit w.accounts s no_account
                  (λ i lt. elim (cases_Bool (is_ready (face_of work (account w.accounts i)))) [
                    | inl t ↦
                        let l = best.least i lt t in
                        let z = (moved w.now x (account w.accounts i) (sound_at work P w ok i lt)).before (omega arith) in
                        omega arith
                    | inr n ↦ (moved w.now x (account w.accounts i) (sound_at work P w ok i lt)).rest n
                        (AllByRecursion-get (λ a. IsAhead w.now (face_of work a)) w.accounts i no_account on.ahead lt)
                  ])
                  (λ lt. let z = asks_run_before w.now x (account w.accounts s) (sound_at work P w ok s lt) ready near in omega arith) in
                  let g = lines_fit work P w (x - (w.now + 1)) ok in
                  rw e (omega arith)
              | inr far ↦
                  let m : sum_by f (changed_at account_with_unit w.accounts s) + P ≤ sum_by (asks work P D w.now x) w.accounts =
                  sum_changed f (asks work P D w.now x) account_with_unit w.accounts s P no_account best.place
                  (λ i lt. (moved w.now x (account w.accounts i) (sound_at work P w ok i lt)).tick)
                  (asks_run w.now x (account w.accounts s) (sound_at work P w ok s best.place) ready far) in
                  let b = on.within x (omega arith) in
                  let k = split P x w.now 1 early in
                  rw e (omega arith)
            ];
        ahead = all_ahead work P (w.now + 1) (changed_at account_with_unit w.accounts s);
      }

  -- so does it that all are let go
  timely_let_go : (w : World W) → IsTimely work P D w → IsTimely work P D (let_go w)
  timely_let_go w on = record {
    within = λ x early. rw (sum_map (asks work P D w.now x) account_let_go w.accounts) (on.within x early);
    ahead = AllByRecursion-map (λ a. IsAhead w.now (face_of work a)) (λ a. IsAhead w.now (face_of work a)) account_let_go w.accounts on.ahead (λ a h. h);
  }

  -- so does a run, whether a server runs or none
  timely_run : (w : World W) (o : Option ℕ) → ((s : ℕ) → o ≡ Some s → chosen work w ≡ Some s) → AllSound work P w → IsTimely work P D w
      → IsTimely work P D (after_run w o)
  timely_run w None chose ok on = on
  timely_run w (Some s) chose ok on =
      let same : chosen work (let_go w) ≡ chosen work w = rw (let_go_faces work w) refl in
      timely_run_one (let_go w) s (same ∙ chose s refl) (sound_let_go work P w ok) (timely_let_go w on)

  -- so does a quiet advance
  timely_ticks : (n : ℕ) (w : World W) → AllSound work P w → IsTimely work P D w → IsQuiet work w n → IsTimely work P D (ticks n w)
  unfolding ticks
  timely_ticks zero w ok on q = on
  timely_ticks (suc n) w ok on q = timely_ticks n (tick w) (sound_tick work P w ok) (timely_tick w ok on (q 0 (omega arith))) (quiet_more work P w n q)

  -- so does an advance
  timely_advance : (w : World W) (n : ℕ) → AllSound work P w → IsTimely work P D w → IsQuiet work w n → IsTimely work P D (after_advance w n)
  timely_advance w zero ok on q = on
  timely_advance w (suc n) ok on q = timely_ticks (suc n) (let_go w) (sound_let_go work P w ok) (timely_let_go w on) (quiet_let_go work P w (suc n) q)

  -- and a charge of nothing
  timely_charge : (w : World W) (s n : ℕ) (o : Option CoreError) → (o ≡ None → n ≡ 0) → IsTimely work P D w → IsTimely work P D (after_charging w s n o)
  timely_charge w s zero None q on = on
  timely_charge w s (suc n) None q on = let z = q refl in absurd (omega arith)
  timely_charge w s zero (Some e) q on = on
  timely_charge w s (suc n) (Some e) q on = on

  -- each step that takes nobody's time keeps a world on time
  pub timely_next : (backlog : ℕ) (w : World W) (x : Step W) → AllSound work P w → IsQuietStep work w x → IsTimely work P D w
      → IsTimely work P D (next work backlog w x)
  timely_next backlog w (Submit s job) ok q on = timely_submit w s job (submit_refusal backlog (faces work w) s) ok on
  timely_next backlog w Run ok q on = timely_run w (runner work w) (runner_chosen work P w) ok on
  timely_next backlog w (Advance n) ok q on = elim (cases_Bool (leb (w.now + n) clock_end)) [
    | inl t ↦ let le : w.now + n ≤ clock_end = grind (arith, nat_tests) in rw t (timely_advance w n ok on (q le))
    | inr f ↦ rw f on
  ]
  timely_next backlog w (Close s) ok q on = timely_close w s (close_refusal (faces work w) s) on
  timely_next backlog w (Charge s n) ok q on = timely_charge w s n (charge_refusal w s n) q on

module _ {W : Type 0} (work : Meaning W) (P : ℕ) where
  -- in a world on time a ready server's deadline has not come
  pub not_late : (w : World W) → 0 < P → AllSound work P w → IsTimely work P demand_of w → (s : ℕ) → s < length w.accounts
      → is_ready (face_of work (account w.accounts s)) ≡ true → w.now < (account w.accounts s).state.deadline
  not_late w some ok on s lt ready = elim (cases_lt w.now (account w.accounts s).state.deadline) [
    | inl early ↦ early
    | inr late ↦
        let a = account w.accounts s in
        let law = sound_at work P w ok s lt in
        let z : w.now - w.now ≡ 0 = omega arith in
        let none : (w.now - w.now) * P ≡ 0 = rw z (omega arith) in
        let b : sum_by (asks work P demand_of w.now w.now) w.accounts ≤ (w.now - w.now) * P = on.within w.now (omega arith) in
        let c : asks work P demand_of w.now w.now a ≤ sum_by (asks work P demand_of w.now w.now) w.accounts =
        get_or-le-sum_by (asks work P demand_of w.now w.now) w.accounts s no_account lt in
        let d : asks work P demand_of w.now w.now a ≡ full_demand P a.terms.reservation a.state w.now =
        demand_busy P a.terms.reservation w.now w.now (is_active (face_of work a)) a.state (grind (arith, nat_tests)) in
        let free : a.state.throttled ≡ false = (runnable (face_of work a) ready).free in
        let e : full_demand P a.terms.reservation a.state w.now ≡ a.state.budget * P
        + (w.now - a.state.deadline) * share P a.terms.reservation =
        rw free (asked_from P (share P a.terms.reservation) a.state.budget a.state.deadline w.now late) in
        let f = ready_budget work a ready law.lawful in
        let g = mul-le 1 P a.state.budget P f (omega arith) in
        let h : 0 < full_demand P a.terms.reservation a.state w.now = omega arith in
        absurd (omega arith)
  ]
