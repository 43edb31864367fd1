-- What holds on time after whole lists of steps.
use Rattle.std.proofs.Common.{◌≡◌, ℕ, zero, suc, ◌+◌, ◌-◌, ◌*◌, ◌≤◌, ◌<◌, Bool, true, false, leb, List, [], ◌∷◌, length, map, arith, refl, inl, inr, ◌∙◌}
use Rattle.std.proofs.Common.{Option, Some, None}
use Rattle.std.specs.List.{sum_by, AllByRecursion}
use Rattle.std.proofs.lemmas.Bool.{cases_lt, cases_Bool}
use Rattle.std.proofs.lemmas.List.{length-map}
use Rattle.std.proofs.lemmas.Option.{slice_get-get_or, slice_get_past}
use Rattle.std.specs.Prelude.{slice_get, Result, IfOk}
use Rattle.std.proofs.lemmas.Bool.Decides.{nat_tests}
use Rattle.std.proofs.lemmas.List.Sums.{sum_by-cons}
use Rattle.std.proofs.lemmas.Nat.{mul-le}
use Rattle.std.proofs.lemmas.Nat.Gcd.{dvd_of_mod-eq-zero}
use Rattle.std.proofs.lemmas.Simd.{map-map}
use Rattle.std.proofs.Math.Nat.{mul-div_cancel'}
use Rattle.cbs_job.specs.Work.{Meaning}
use Rattle.cbs_rate.specs.Rate.{Rate}
use Rattle.cbs_rate.specs.Plan.{share, all_periods, total_share, IsCommonMultiple}
use Rattle.cbs_rate.proofs.Multiples.{AllLawful, all_periods_some, all_periods-common}
use Rattle.cbs_rules.specs.Rules.{State, clock_end, fresh_state, Terms}
use Rattle.cbs_rules.proofs.States.{IsState-fresh_state}
use Rattle.cbs_lists.specs.Lists.{changed_at}
use Rattle.cbs_steps.specs.declared.view.ServerView.{ServerView}
use Rattle.cbs_steps.proofs.Histories.{account_face}
use Rattle.cbs_steps.specs.Faces.{Face, no_face, is_active, is_ready, reservations, view_reply, submit_refusal, close_refusal}
use Rattle.cbs_steps.specs.Accounts.{Account, face_of, new_account, no_account, account_with_job, account_with_unit, account_with_charge, account_with_replenishment, account_let_go}
use Rattle.cbs_steps.specs.Accounts.{account_with_close}
use Rattle.cbs_steps.specs.History.{World, Setup, History, account, faces, tick, ticks, start, runner, after_submit, after_run, after_closing, after_advance, after_charging, charge_refusal, let_go, next}
use Rattle.cbs_steps.specs.History.{after, world_after, ◌⊕◌}
use Rattle.cbs_steps.specs.OnTime.{demand_of, IsAhead, IsOnTimeBy, is_late, IsNobodyLate, IsWorldOnTime, NeverLate, KeepsTime, KeepsTimeAll}
use Rattle.cbs_steps.specs.Quiet.{IsQuietStep, IsQuietAfter, AreQuiet}
use Rattle.cbs_steps.specs.StrictlyOnTime.{strict_demand_of, KeepsStrictlyOnTime, KeepsStrictTime, IsStricter}
use Rattle.cbs_steps.specs.declared.error.CoreError.{CoreError}
use Rattle.cbs_steps.specs.declared.reply.Reply.{Reply}
use Rattle.cbs_steps.specs.declared.step.Step.{Step}
use Rattle.cbs_steps.specs.declared.step.Step.TheVariants.{Submit, Run, Advance, Close, Charge}
use Rattle.cbs_lists.proofs.Lists.{map_kept, changed_kept, AllByRecursion-map, AllByRecursion-mapped, AllByRecursion-make}
use Rattle.cbs_steps.proofs.DemandRules.{IsRuled, demand_ruled, strict_ruled, demand-le-strict}
use Rattle.cbs_steps.proofs.OnTimeLists.{all_grown}
use Rattle.cbs_steps.proofs.OnTimeSteps.{IsSound, AllSound, sound_at, sound_next}
use Rattle.cbs_steps.proofs.TimelySteps.{asks, IsTimely, timely_next, not_late}
use Rattle.cbs_lists.proofs.Sums.{sum_map, sum_times, sum-mono}

-- what admission promises of reservations: each is within its limits, and their total bandwidth is at most one
pub record IsAdmitted (rates : List Rate) : Type 0 where
  pub lawful : AllLawful rates
  pub at_most_one : total_share rates ≤ all_periods rates

module _ {W : Type 0} (work : Meaning W) where
  -- the reservation of an account
  abbrev pub reservation : Account W → Rate
  reservation a = a.terms.reservation

  -- the reservations of a world are those of its accounts
  pub rates_are : (accounts : List (Account W)) → reservations (map (face_of work) accounts) ≡ map reservation accounts
  rates_are accounts = map-map (λ (f : Face). f.terms.reservation) (face_of work) accounts

  -- no step changes a reservation
  rates_tick : (w : World W) → map reservation (tick w).accounts ≡ map reservation w.accounts
  rates_tick w = map_kept reservation (account_with_replenishment (w.now + 1)) w.accounts (λ a. refl)

  -- nor do n ticks
  rates_ticks : (n : ℕ) (w : World W) → map reservation (ticks n w).accounts ≡ map reservation w.accounts
  unfolding ticks
  rates_ticks zero w = refl
  rates_ticks (suc n) w = rates_ticks n (tick w) ∙ rates_tick w

  -- nor that all are let go
  rates_let_go : (w : World W) → map reservation (let_go w).accounts ≡ map reservation w.accounts
  rates_let_go w = map_kept reservation account_let_go w.accounts (λ a. refl)

  -- nor does a submit
  rates_submit : (w : World W) (s : ℕ) (job : W) (o : Option CoreError) → map reservation (after_submit work w s job o).accounts ≡ map reservation w.accounts
  rates_submit w s job None = changed_kept reservation (account_with_job work w.now job) w.accounts s (λ a. refl)
  rates_submit w s job (Some e) = refl

  -- nor does a run
  rates_run : (w : World W) (o : Option ℕ) → map reservation (after_run w o).accounts ≡ map reservation w.accounts
  rates_run w None = refl
  rates_run w (Some s) = rates_tick (record w { accounts = changed_at account_with_unit (let_go w).accounts s })
      ∙ changed_kept reservation account_with_unit (let_go w).accounts s (λ a. refl) ∙ rates_let_go w

  -- nor does an advance
  rates_advance : (w : World W) (n : ℕ) → map reservation (after_advance w n).accounts ≡ map reservation w.accounts
  rates_advance w zero = refl
  rates_advance w (suc n) = rates_ticks (suc n) (let_go w) ∙ rates_let_go w

  -- nor does a charge
  rates_charge : (w : World W) (s n : ℕ) (o : Option CoreError) → map reservation (after_charging w s n o).accounts ≡ map reservation w.accounts
  rates_charge w s zero None = refl
  rates_charge w s (suc n) None = rates_ticks (suc n) (record w { accounts = changed_at (account_with_charge (suc n)) w.accounts s })
      ∙ changed_kept reservation (account_with_charge (suc n)) w.accounts s (λ a. refl)
  rates_charge w s zero (Some e) = refl
  rates_charge w s (suc n) (Some e) = refl

  -- nor does a close
  rates_close : (w : World W) (s : ℕ) (o : Option CoreError) → map reservation (after_closing w s o).accounts ≡ map reservation w.accounts
  rates_close w s None = changed_kept reservation account_with_close w.accounts s (λ a. refl)
  rates_close w s (Some e) = refl

  -- nor does any step
  rates_next : (backlog : ℕ) (w : World W) (x : Step W) → map reservation (next work backlog w x).accounts ≡ map reservation w.accounts
  rates_next backlog w (Submit s job) = rates_submit w s job (submit_refusal backlog (faces work w) s)
  rates_next backlog w Run = rates_run w (runner work w)
  rates_next backlog w (Advance n) = elim (cases_Bool (leb (w.now + n) clock_end)) [ inl t ↦ rw t (rates_advance w n) | inr f ↦ rw f ]
  rates_next backlog w (Close s) = rates_close w s (close_refusal (faces work w) s)
  rates_next backlog w (Charge s n) = rates_charge w s n (charge_refusal w s n)

  -- the reservations that an executor was given
  abbrev pub given : Setup → List Rate
  given setup = map reservation (start setup).accounts

  -- nor does a list of steps
  pub rates_after : (setup : Setup) (M : List (Step W)) → map reservation (after work setup M).accounts ≡ given setup
  rates_after setup [] = refl
  rates_after setup (x ∷ M) = rates_next setup.backlog (after work setup M) x ∙ rates_after setup M

  -- each new account is sound
  sound_new : (P : ℕ) (ts : List Terms) → AllLawful (map reservation (map new_account ts)) → IsCommonMultiple P (map reservation (map new_account ts))
      → AllByRecursion (IsSound work P) (map new_account ts)
  sound_new P [] all common = tt
  sound_new P (t ∷ ts) all common = (
    record {
      lawful = record { rate = all.0; state = IsState-fresh_state t.reservation all.0; free = λ soft. refl; begun = λ active. cc; ran = λ runs. cc; within = omega arith };
      divides = mul-div_cancel' t.reservation.period {m = P} (dvd_of_mod-eq-zero t.reservation.period common.0);
    },
    sound_new P ts all.1 common.1,
  )

  -- so the start is sound
  pub sound_start : (setup : Setup) → IsAdmitted (given setup) → AllSound work (all_periods (given setup)) (start setup)
  sound_start setup ok =
      let P = all_periods (given setup) in
      record {
        each = sound_new P setup.servers ok.lawful (all_periods-common (given setup));
        fits = rw (← sum_map (share P) reservation (start setup).accounts) ok.at_most_one;
      }

  -- a new server is not throttled
  new_ahead : (ts : List Terms) → AllByRecursion (λ a. IsAhead 0 (face_of work a)) (map new_account ts)
  new_ahead [] = tt
  new_ahead (t ∷ ts) = (λ marked. cc, new_ahead ts)

  -- each list of steps leaves a sound world
  pub sound_after : (setup : Setup) (M : List (Step W)) → IsAdmitted (given setup) → AllSound work (all_periods (given setup)) (after work setup M)
  sound_after setup [] ok = sound_start setup ok
  sound_after setup (x ∷ M) ok = sound_next work (all_periods (given setup)) setup.backlog (after work setup M) x (sound_after setup M ok)

  -- on time by a demand D that is ruled
  module _ (D : ℕ → Rate → ℕ → ℕ → Bool → State → ℕ) (ruled : IsRuled D) where
    -- D of what a server shows
    abbrev pub shown_by : ℕ → ℕ → ℕ → Face → ℕ
    shown_by P now x f = D P f.terms.reservation now x (is_active f) f.state

    -- a new server asks for no more than its share
    new_demand : (P x : ℕ) (ts : List Terms) → sum_by (asks work P D 0 x) (map new_account ts)
        ≤ sum_by (λ a. (x - 0) * share P (reservation a)) (map new_account ts)
    new_demand P x [] = omega arith
    new_demand P x (t ∷ ts) =
        let rest = new_demand P x ts in
        let one = ruled.idle P t.reservation 0 x fresh_state refl in
        omega (
          arith,
          sum_by-cons (asks work P D 0 x) (new_account t) (map new_account ts),
          sum_by-cons (λ a. (x - 0) * share P (reservation a)) (new_account t) (map new_account ts),
        )

    -- so the start is on time
    pub timely_start : (setup : Setup) → IsAdmitted (given setup) → IsTimely work (all_periods (given setup)) D (start setup)
    timely_start setup ok =
        let P = all_periods (given setup) in
        record {
          within = λ x early.
              let accounts = (start setup).accounts in
              let a = new_demand P x setup.servers in
              let e = sum_times (λ (a : Account W). share P (reservation a)) (x - 0) accounts in
              let f = (sound_start setup ok).fits in
              let m = mul-le (x - 0) (sum_by (λ (a : Account W). share P (reservation a)) accounts) (x - 0) P (omega arith) f in
              omega arith;
          ahead = new_ahead setup.servers;
        }

    -- and so is what a list of steps leaves, if each takes nobody's time
    pub timely_after : (setup : Setup) (M : List (Step W)) → IsAdmitted (given setup) → AreQuiet work setup M
        → IsTimely work (all_periods (given setup)) D (after work setup M)
    timely_after setup [] ok quiet = timely_start setup ok
    timely_after setup (x ∷ M) ok quiet = timely_next work (all_periods (given setup)) D ruled setup.backlog (after work setup M) x
        (sound_after setup M ok) quiet.1 (timely_after setup M ok quiet.0)

    -- on time, said of what the servers show and of the accounts
    shown_on_time : (setup : Setup) (M : List (Step W)) → IsTimely work (all_periods (given setup)) D (after work setup M)
        → (let fs = faces work (after work setup M) in IsOnTimeBy shown_by (all_periods (reservations fs)) (after work setup M).now fs)
    shown_on_time setup M on =
        let w = after work setup M in
        let same : reservations (faces work w) ≡ given setup = rates_are w.accounts ∙ rates_after setup M in
        let here : IsOnTimeBy shown_by (all_periods (given setup)) w.now (faces work w) = record {
          within = λ x early. rw (sum_map (shown_by (all_periods (given setup)) w.now x) (face_of work) w.accounts) (on.within x early);
          ahead = AllByRecursion-map (λ a. IsAhead w.now (face_of work a)) (IsAhead w.now) (face_of work) w.accounts on.ahead (λ a h. h);
        } in
        rw same here

    -- and the other way round
    known_timely : (setup : Setup) (M : List (Step W))
        → (let fs = faces work (after work setup M) in IsOnTimeBy shown_by (all_periods (reservations fs)) (after work setup M).now fs)
        → IsTimely work (all_periods (given setup)) D (after work setup M)
    known_timely setup M on =
        let w = after work setup M in
        let same : reservations (faces work w) ≡ given setup = rates_are w.accounts ∙ rates_after setup M in
        let here : IsOnTimeBy shown_by (all_periods (given setup)) w.now (faces work w) = rw same at on in
        record {
          within = λ x early. rw (← sum_map (shown_by (all_periods (given setup)) w.now x) (face_of work) w.accounts) (here.within x early);
          ahead = AllByRecursion-mapped (IsAhead w.now) (face_of work) w.accounts here.ahead;
        }

    -- each step that takes nobody's time keeps what the servers show so
    shown_next : (M : History W) (x : Step W) → IsAdmitted (given M.setup) → IsQuietStep work (world_after work M) x
        → (let fs = faces work (world_after work M) in IsOnTimeBy shown_by (all_periods (reservations fs)) (world_after work M).now fs)
        → (let fs = faces work (world_after work (M ⊕ x)) in IsOnTimeBy shown_by (all_periods (reservations fs)) (world_after work (M ⊕ x)).now fs)
    shown_next M x ok quiet on = shown_on_time M.setup (x ∷ M.steps)
        (timely_next work (all_periods (given M.setup)) D ruled M.setup.backlog (world_after work M) x (sound_after M.setup M.steps ok) quiet
        (known_timely M.setup M.steps on))

  -- so all are on time after each list of steps that takes nobody's time
  pub on_time_after : (setup : Setup) (M : List (Step W)) → IsAdmitted (given setup) → AreQuiet work setup M → IsWorldOnTime work (after work setup M)
  on_time_after setup M ok quiet = shown_on_time demand_of demand_ruled setup M (timely_after demand_of demand_ruled setup M ok quiet)

  -- and strictly on time
  pub strictly_after : (N : History W) → IsAdmitted (given N.setup) → KeepsStrictlyOnTime work N
  strictly_after N ok = λ quiet. shown_on_time strict_demand_of strict_ruled N.setup N.steps
      (timely_after strict_demand_of strict_ruled N.setup N.steps ok quiet)

  -- what is known of a world that is on time
  pub known_on_time : (setup : Setup) (M : List (Step W)) → IsWorldOnTime work (after work setup M)
      → IsTimely work (all_periods (given setup)) demand_of (after work setup M)
  known_on_time = known_timely demand_of demand_ruled

  -- each step that takes nobody's time keeps a world on time
  pub on_time_next : (M : History W) (x : Step W) → IsAdmitted (given M.setup) → KeepsTime work M x
  on_time_next M x ok = shown_next demand_of demand_ruled M x ok

  -- also one that is strictly on time
  pub strict_next : (M : History W) (x : Step W) → IsAdmitted (given M.setup) → KeepsStrictTime work M x
  strict_next M x ok = shown_next strict_demand_of strict_ruled M x ok

  -- what is strictly on time is on time
  pub strict_is_stricter : (M : History W) → IsAdmitted (given M.setup) → IsStricter work M
  strict_is_stricter M ok = λ strict.
      let P = all_periods (given M.setup) in
      let w = world_after work M in
      let on = known_timely strict_demand_of strict_ruled M.setup M.steps strict in
      let sound = sound_after M.setup M.steps ok in
      shown_on_time demand_of demand_ruled M.setup M.steps record {
        within = λ x early.
            let a = on.within x early in
            let le = sum-mono (asks work P demand_of w.now x) (asks work P strict_demand_of w.now x) w.accounts no_account (λ i lt.
            let b = account w.accounts i in
            let one = sound_at work P w sound i lt in
            demand-le-strict P b.terms.reservation w.now x (is_active (face_of work b)) b.state one.divides one.lawful.state) in
            omega arith;
        ahead = on.ahead;
      }

  -- so does each list of such steps, with its replies
  pub on_time_grown : (M : History W) (xs : List (Step W)) (rs : List (Reply W)) → IsAdmitted (given M.setup) → KeepsTimeAll work M xs rs
  on_time_grown M xs rs ok = all_grown work (IsWorldOnTime work) (IsQuietAfter work) (λ setup. IsAdmitted (given setup)) on_time_next M xs rs ok

  -- a new executor is on time
  pub on_time_start : (setup : Setup) → IsAdmitted (given setup) → IsWorldOnTime work (start setup)
  on_time_start setup ok = shown_on_time demand_of demand_ruled setup [] (timely_start demand_of demand_ruled setup ok)

  -- after a list of such steps a ready server's deadline has not come
  pub ready_early : (setup : Setup) (M : List (Step W)) → IsAdmitted (given setup) → IsTimely work (all_periods (given setup)) demand_of (after work setup M)
      → (s : ℕ) → s < length (after work setup M).accounts
      → is_ready (face_of work (account (after work setup M).accounts s)) ≡ true
      → (after work setup M).now < (account (after work setup M).accounts s).state.deadline
  ready_early setup M ok on s lt ready = not_late work (all_periods (given setup)) (after work setup M)
      (all_periods_some (given setup) ok.lawful) (sound_after setup M ok) on s lt ready

  -- what is so of the deadline of each ready server is so of what a server shows to a caller, if it could run
  pub view_by : (w : World W) (s : ℕ) (r : Result ServerView CoreError) (Soon : ℕ → Type 0)
      → (s < length w.accounts → is_ready (face_of work (account w.accounts s)) ≡ true → Soon (account w.accounts s).state.deadline)
      → r ≡ view_reply (slice_get (faces work w) s) → IfOk r (λ v. v.finished < v.accepted → v.throttled ≡ false → Soon v.deadline)
  view_by w s r Soon ready e =
      let a = account w.accounts s in
      elim (cases_lt s (length (faces work w))) [
        | inl lt ↦
            let within : s < length w.accounts = omega (arith, length-map w.accounts (face_of work)) in
            let soon : (face_of work a).finished < (face_of work a).accepted → a.state.throttled ≡ false → Soon a.state.deadline =
            λ some free. ready within (grind (arith, nat_tests)) in
            rw (e, slice_get-get_or (faces work w) s no_face lt, account_face work w.accounts s) soon
        | inr ge ↦ rw (e, slice_get_past (faces work w) s ge) tt
      ]

  -- in a world that is on time such a deadline has not come
  pub view_in_time : (M : History W) → IsAdmitted (given M.setup) → IsWorldOnTime work (world_after work M) → (s : ℕ) (r : Result ServerView CoreError)
      → r ≡ view_reply (slice_get (faces work (world_after work M)) s)
      → IfOk r (λ v. v.finished < v.accepted → v.throttled ≡ false → (world_after work M).now < v.deadline)
  view_in_time M ok on s r e = view_by (world_after work M) s r (λ d. (world_after work M).now < d)
      (λ lt ready. ready_early M.setup M.steps ok (known_on_time M.setup M.steps on) s lt ready) e

  -- a ready server whose deadline has not come is not late
  not_late-false : (now : ℕ) (f : Face) → (is_ready f ≡ true → now < f.state.deadline) → is_late now f ≡ false
  not_late-false now f h = elim (cases_Bool (is_ready f)) [
    | inl t ↦ let l = h t in let e : leb f.state.deadline now ≡ false = grind (arith, nat_tests) in rw (t, e)
    | inr r ↦ rw r
  ]

  -- so nobody is late
  none_late : (setup : Setup) (M : List (Step W)) → IsAdmitted (given setup) → IsTimely work (all_periods (given setup)) demand_of (after work setup M)
      → IsNobodyLate (after work setup M).now (faces work (after work setup M))
  none_late setup M ok on =
      let w = after work setup M in
      AllByRecursion-map (λ a. is_late w.now (face_of work a) ≡ false) (λ f. is_late w.now f ≡ false) (face_of work) w.accounts
      (AllByRecursion-make (λ a. is_late w.now (face_of work a) ≡ false) w.accounts no_account
      (λ s lt. not_late-false w.now (face_of work (account w.accounts s)) (ready_early setup M ok on s lt)))
      (λ a h. h)

  -- in a world that is on time nobody is late
  pub nobody_late : (M : History W) → IsAdmitted (given M.setup) → IsWorldOnTime work (world_after work M)
      → IsNobodyLate (world_after work M).now (faces work (world_after work M))
  nobody_late M ok on = none_late M.setup M.steps ok (known_on_time M.setup M.steps on)

  -- nor was anybody from the start on
  pub never_late : (setup : Setup) (M : List (Step W)) → IsAdmitted (given setup) → AreQuiet work setup M → NeverLate work setup M
  never_late setup [] ok quiet = none_late setup [] ok (timely_start demand_of demand_ruled setup ok)
  never_late setup (x ∷ M) ok quiet = (never_late setup M ok quiet.0, none_late setup (x ∷ M) ok (timely_after demand_of demand_ruled setup (x ∷ M) ok quiet))
