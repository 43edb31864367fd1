-- A delay is made up by what is not reserved: for each tick x the steps fall into earlier ones, which left the servers
-- that are due by x with no more to ask for than their share, and a stretch of later ones, in which only they ran.
use Rattle.std.proofs.Common.{◌≡◌, ℕ, zero, suc, ◌+◌, ◌-◌, ◌*◌, ◌≤◌, ◌<◌, true, false, ltb, leb, ◌||◌, List, [], ◌∷◌, ◌++◌, length, map, arith, refl, inl, inr, ap, sym, Option, Some, None, ◌∙◌, ◌⊎◌}
use Rattle.std.specs.List.{sum_by, AllByRecursion}
use Rattle.std.proofs.lemmas.Bool.{cases_lt, cases_Bool}
use Rattle.std.proofs.lemmas.Bool.Decides.{nat_tests}
use Rattle.std.proofs.lemmas.List.Sums.{get_or-le-sum_by, sum_by-cons}
use Rattle.std.proofs.lemmas.List.{append-nil, append_assoc}
use Rattle.std.proofs.lemmas.Nat.{mul-le}
use Rattle.cbs_job.specs.Work.{Meaning}
use Rattle.cbs_rate.specs.Rate.{Rate}
use Rattle.cbs_rate.specs.Plan.{Planned, IsPlan, share, all_periods, total_share}
use Rattle.cbs_rate.proofs.Multiples.{all_periods_some}
use Rattle.cbs_rules.specs.Rules.{clock_end, until, fresh_state, Terms}
use Rattle.cbs_rules.proofs.Paid.{charge_paid}
use Rattle.cbs_rules.specs.declared.mode.Mode.{Mode}
use Rattle.cbs_lists.specs.Lists.{changed_at}
use Rattle.cbs_lists.proofs.Lists.{AllByRecursion-map, AllByRecursion-mapped, AllByRecursion-get}
use Rattle.cbs_lists.proofs.Sums.{sum_map, sum_times, sum-mono, sum_changed, sum_changed-le, sum_changed_same}
use Rattle.cbs_steps.specs.Faces.{is_active, is_ready, submit_refusal, close_refusal}
use Rattle.cbs_steps.specs.Accounts.{Account, face_of, no_account, new_account, account_with_job, account_with_unit, account_with_charge, account_with_replenishment, account_with_close, account_let_go}
use Rattle.cbs_steps.specs.History.{World, Setup, account, faces, chosen, tick, ticks, start, runner, after_submit, after_run, after_closing, after_advance, after_charging, charge_refusal, let_go, next, after}
use Rattle.cbs_steps.specs.OnTime.{full_demand, IsAhead}
use Rattle.cbs_steps.specs.Quiet.{IsAtRest, IsQuiet, IsQuietAdvance, AdvanceQuietly}
use Rattle.cbs_steps.specs.Setups.{setup_of, history_of, terms_of}
use Rattle.cbs_steps.specs.declared.error.CoreError.{CoreError}
use Rattle.cbs_steps.specs.declared.step.Step.{Step}
use Rattle.cbs_steps.specs.declared.step.Step.TheVariants.{Submit, Run, Advance, Close, Charge}
use Rattle.cbs_steps.proofs.DemandLines.{asked_from}
use Rattle.cbs_steps.proofs.DemandRules.{demand_ruled}
use Rattle.cbs_steps.proofs.Demands.{demand-le, demand_busy, demand_before, paid_less}
use Rattle.cbs_steps.proofs.Faces.{runnable}
use Rattle.cbs_steps.proofs.Histories.{chosen_is_ready, charged_runs, charged_there, let_go_faces}
use Rattle.cbs_steps.proofs.Lateness.{paced_after}
use Rattle.cbs_steps.proofs.LawfulServers.{ready_budget}
use Rattle.cbs_steps.proofs.OnTime.{IsAdmitted, reservation, given, rates_after, sound_after}
use Rattle.cbs_steps.proofs.OnTimeSteps.{IsSound, AllSound, all_ahead, chosen_least, quiet_let_go, quiet_more, runner_chosen, sound_at, sound_tick, sound_let_go, sound_charged}
use Rattle.cbs_steps.proofs.Paced.{asks, asks_let_go, asks_job, asks_tick, asks_rest, asks_before, asks_run, asks_run_before, AllLoose, all_loose}
use Rattle.cbs_recovery.specs.Recovery.{charged_by, charged, held_by, held, KeepsRecovery, KeepsOneRecovery}

module _ {W : Type 0} (work : Meaning W) (P now x : ℕ) (a : Account W) (ok : IsSound work P a) where
  abbrev r : Rate
  r = a.terms.reservation

  -- a ready server asks for its budget at its deadline
  asks_budget : is_ready (face_of work a) ≡ true → x ≡ a.state.deadline → 0 < a.state.budget → P ≤ asks work P now x a
  asks_budget ready at some =
      let all : asks work P now x a ≡ full_demand P r a.state x = demand_busy P r now x (a.runs || is_active (face_of work a)) a.state (grind (arith, nat_tests)) in
      let f : a.state.throttled ≡ false = (runnable (face_of work a) ready).free in
      let e : full_demand P r a.state x ≡ a.state.budget * P + (x - a.state.deadline) * share P r = rw f (asked_from P (share P r) a.state.budget a.state.deadline x (omega arith)) in
      let m = mul-le 1 P a.state.budget P some (omega arith) in
      omega arith

  module _ (n : ℕ) (runs : a.runs ≡ true) where
    -- a charge of a server that is due later after it asks for no more
    charge_late : x < until r (account_with_charge n a).state → asks work P now x (account_with_charge n a) ≤ asks work P now x a
    charge_late lt = let c = account_with_charge n a in let z = demand_before P r now x (c.runs || is_active (face_of work c)) c.state lt in omega arith

    -- one of a server that is due by then pays for all its ticks
    charge_soon : until r (account_with_charge n a).state ≤ x → asks work P now x (account_with_charge n a) + n * P ≤ asks work P now x a
    charge_soon ge =
        let c = account_with_charge n a in
        let p = charge_paid a.terms.mode r n a.state ok.lawful.rate.some ok.lawful.state ok.lawful.free in
        let m = demand-le P r now x (c.runs || is_active (face_of work c)) c.state in
        let busy : asks work P now x a ≡ full_demand P r a.state x = demand_busy P r now x (a.runs || is_active (face_of work a)) a.state (rw runs refl) in
        let l = paid_less P r ok.divides n a.state c.state x p ge in
        omega arith

module _ {W : Type 0} (work : Meaning W) (P x : ℕ) where
  -- what all servers together ask for
  abbrev total : World W → ℕ
  total w = sum_by (asks work P w.now x) w.accounts

  -- their shares of a tick
  abbrev shares : World W → ℕ
  shares w = sum_by (λ a. share P a.terms.reservation) w.accounts

  -- each throttled server waits
  abbrev AllAhead : World W → Type 0
  AllAhead w = AllByRecursion (λ a. IsAhead w.now (face_of work a)) w.accounts

  ahead_let_go : (w : World W) → AllAhead w → AllAhead (let_go w)
  ahead_let_go w ahead = AllByRecursion-map (λ a. IsAhead w.now (face_of work a)) (λ a. IsAhead w.now (face_of work a)) account_let_go w.accounts ahead (λ a h. h)

  shares_let_go : (w : World W) → shares (let_go w) ≡ shares w
  shares_let_go w = sum_map (λ a. share P a.terms.reservation) account_let_go w.accounts

  total_let_go : (w : World W) → AllSound work P w → total (let_go w) ≤ total w
  total_let_go w ok =
      let e = sum_map (asks work P w.now x) account_let_go w.accounts in
      let m = sum-mono (λ a. asks work P w.now x (account_let_go a)) (asks work P w.now x) w.accounts no_account
      (λ i lt. asks_let_go work P w.now x (account w.accounts i) (sound_at work P w ok i lt)) in
      omega arith

  total_tick : (w : World W) → AllSound work P w → total (tick w) ≤ total w
  total_tick w ok =
      let e = sum_map (asks work P (w.now + 1) x) (account_with_replenishment (w.now + 1)) w.accounts in
      let m = sum-mono (λ a. asks work P (w.now + 1) x (account_with_replenishment (w.now + 1) a)) (asks work P w.now x) w.accounts no_account
      (λ i lt. asks_tick work P w.now x (account w.accounts i) (sound_at work P w ok i lt)) in
      omega arith

  total_ticks : (n : ℕ) (w : World W) → AllSound work P w → total (ticks n w) ≤ total w
  unfolding ticks
  total_ticks zero w ok = omega arith
  total_ticks (suc n) w ok = let a = total_tick w ok in let b = total_ticks n (tick w) (sound_tick work P w ok) in omega arith

  now_ticks : (n : ℕ) (w : World W) → (ticks n w).now ≡ w.now + n
  unfolding ticks
  now_ticks zero w = omega arith
  now_ticks (suc n) w = let b = now_ticks n (tick w) in omega arith

  -- after a tick in which nobody was ready, all are below their shares
  below_rest : (w : World W) → AllSound work P w → AllAhead w → AllLoose w → IsAtRest work w → total (tick w) ≤ (x - (w.now + 1)) * shares w
  below_rest w ok ahead loose rest =
      let rests = AllByRecursion-mapped (λ f. is_ready f ≡ false) (face_of work) w.accounts rest in
      let e = sum_map (asks work P (w.now + 1) x) (account_with_replenishment (w.now + 1)) w.accounts in
      let m = sum-mono (λ a. asks work P (w.now + 1) x (account_with_replenishment (w.now + 1) a)) (λ a. (x - (w.now + 1)) * share P a.terms.reservation) w.accounts no_account
      (λ i lt. asks_rest work P w.now x (account w.accounts i) (sound_at work P w ok i lt)
      (AllByRecursion-get (λ a. is_ready (face_of work a) ≡ false) w.accounts i no_account rests lt)
      (AllByRecursion-get (λ a. a.runs ≡ false) w.accounts i no_account loose lt)
      (AllByRecursion-get (λ a. IsAhead w.now (face_of work a)) w.accounts i no_account ahead lt)) in
      let f = sum_times (λ (a : Account W). share P a.terms.reservation) (x - (w.now + 1)) w.accounts in
      omega arith

  below_rests : (n : ℕ) (w : World W) → AllSound work P w → AllAhead w → AllLoose w → IsQuiet work w (suc n)
      → total (ticks (suc n) w) ≤ (x - (w.now + suc n)) * shares w
  unfolding ticks
  below_rests zero w ok ahead loose q = below_rest w ok ahead loose (q 0 (omega arith))
  below_rests (suc n) w ok ahead loose q =
      let more = below_rests n (tick w) (sound_tick work P w ok) (all_ahead work P (w.now + 1) w.accounts)
      (AllByRecursion-map (λ a. a.runs ≡ false) (λ a. a.runs ≡ false) (account_with_replenishment (w.now + 1)) w.accounts loose (λ a h. h))
      (quiet_more work P w (suc n) q) in
      let same : shares (tick w) ≡ shares w = sum_map (λ a. share P a.terms.reservation) (account_with_replenishment (w.now + 1)) w.accounts in
      let at : w.now + 1 + suc n ≡ w.now + suc (suc n) = omega arith in
      rw (same, at) at more

  module _ (w : World W) (s : ℕ) (chose : chosen work w ≡ Some s) (ok : AllSound work P w) where
    abbrev ran : World W
    ran = tick (record w { accounts = changed_at account_with_unit w.accounts s })

    -- after a unit of a server that is due later than x, all are below their shares
    below_run : AllAhead w → AllLoose w → x < (account w.accounts s).state.deadline → total ran ≤ (x - (w.now + 1)) * shares w
    below_run ahead loose near =
        let best = chosen_least work P w s chose in
        let ready = chosen_is_ready work w s chose in
        let f = λ (a : Account W). asks work P (w.now + 1) x (account_with_replenishment (w.now + 1) a) in
        let e = sum_map (asks work P (w.now + 1) x) (account_with_replenishment (w.now + 1)) (changed_at account_with_unit w.accounts s) in
        let m : sum_by f (changed_at account_with_unit w.accounts s) ≤ sum_by (λ a. (x - (w.now + 1)) * share P a.terms.reservation) w.accounts =
        sum_changed-le f (λ a. (x - (w.now + 1)) * share P a.terms.reservation) account_with_unit w.accounts s no_account
        (λ i lt. elim (cases_Bool (is_ready (face_of work (account w.accounts i)))) [
          | inl t ↦
              let l = best.least i lt t in
              let z = asks_before work P w.now x (account w.accounts i) (sound_at work P w ok i lt) (omega arith) in
              omega arith
          | inr n ↦ asks_rest work P w.now x (account w.accounts i) (sound_at work P w ok i lt) n
              (AllByRecursion-get (λ a. a.runs ≡ false) w.accounts i no_account loose lt)
              (AllByRecursion-get (λ a. IsAhead w.now (face_of work a)) w.accounts i no_account ahead lt)
        ])
        (λ lt. let z = asks_run_before work P w.now x (account w.accounts s) (sound_at work P w ok s lt) ready near in omega arith) in
        let t = sum_times (λ (a : Account W). share P a.terms.reservation) (x - (w.now + 1)) w.accounts in
        omega arith

    -- one of a server that is due by x takes a tick of what they ask for
    total_run : (account w.accounts s).state.deadline ≤ x → total ran + P ≤ total w
    total_run far =
        let best = chosen_least work P w s chose in
        let ready = chosen_is_ready work w s chose in
        let f = λ (a : Account W). asks work P (w.now + 1) x (account_with_replenishment (w.now + 1) a) in
        let e = sum_map (asks work P (w.now + 1) x) (account_with_replenishment (w.now + 1)) (changed_at account_with_unit w.accounts s) in
        let m : sum_by f (changed_at account_with_unit w.accounts s) + P ≤ sum_by (asks work P w.now x) w.accounts =
        sum_changed f (asks work P w.now x) account_with_unit w.accounts s P no_account best.place
        (λ i lt. asks_tick work P w.now x (account w.accounts i) (sound_at work P w ok i lt))
        (asks_run work P w.now x (account w.accounts s) (sound_at work P w ok s best.place) ready far) in
        omega arith

  module _ (w : World W) (s n : ℕ) (place : s < length w.accounts) (runs : (account w.accounts s).runs ≡ true) (ok : AllSound work P w) where
    abbrev paid : World W
    paid = record w { accounts = changed_at (account_with_charge n) w.accounts s }

    abbrev due : ℕ
    due = until (account w.accounts s).terms.reservation (account_with_charge n (account w.accounts s)).state

    total_charge_late : x < due → total paid ≤ total w
    total_charge_late lt = sum_changed-le (asks work P w.now x) (asks work P w.now x) (account_with_charge n) w.accounts s no_account (λ i l. omega arith)
        (λ l. charge_late work P w.now x (account w.accounts s) (sound_at work P w ok s l) n runs lt)

    total_charge_soon : due ≤ x → total paid + n * P ≤ total w
    total_charge_soon ge = sum_changed (asks work P w.now x) (asks work P w.now x) (account_with_charge n) w.accounts s (n * P) no_account place (λ i l. omega arith)
        (charge_soon work P w.now x (account w.accounts s) (sound_at work P w ok s place) n runs ge)

module _ {W : Type 0} (work : Meaning W) (setup : Setup) (ok : IsAdmitted (given work setup)) (x : ℕ) where
  abbrev P : ℕ
  P = all_periods (given work setup)

  abbrev U : ℕ
  U = total_share (given work setup)

  abbrev at : List (Step W) → World W
  at N = after work setup N

  sound : (N : List (Step W)) → AllSound work P (at N)
  sound N = sound_after work setup N ok

  -- all shares together
  all_shares : (N : List (Step W)) → shares work P x (at N) ≡ U
  all_shares N = sym (sum_map (share P) (reservation work) (at N).accounts) ∙ ap (sum_by (share P)) (rates_after work setup N)

  -- The steps N are the steps `later` after `earlier`. Earlier than the tick at which these end, the servers ask for
  -- nothing. From there on they ask for no more than their share, less the ticks that have passed since, but for those
  -- by which they were held up
  record IsStretch (N : List (Step W)) : Type 0 where
    later : List (Step W)
    earlier : List (Step W)
    split : N ≡ later ++ earlier
    none : x < (at earlier).now → total work P x (at N) ≡ 0
    within : total work P x (at N) + (at N).now * P ≤ (x - (at earlier).now) * U + ((at earlier).now + held work setup x later earlier) * P

  -- one begins if all are below their shares
  begins : (N : List (Step W)) → total work P x (at N) ≤ (x - (at N).now) * U → IsStretch N
  begins N below = record {
    later = [];
    earlier = N;
    split = refl;
    none = λ lt. let z : x - (at N).now ≡ 0 = omega arith in let e : (x - (at N).now) * U ≡ 0 = rw z (omega arith) in omega arith;
    within = omega arith;
  }

  -- it goes on with a step whose ticks the servers are spared, but for those by which it holds them up
  goes_on : (N : List (Step W)) (y : Step W) (n : ℕ) → IsStretch N → n ≤ held_by work setup x N y → total work P x (at (y ∷ N)) ≤ total work P x (at N)
      → total work P x (at (y ∷ N)) + (at (y ∷ N)).now * P ≤ total work P x (at N) + ((at N).now + n) * P → IsStretch (y ∷ N)
  goes_on N y n h most less within = record {
    later = y ∷ h.later;
    earlier = h.earlier;
    split = ap (λ M. y ∷ M) h.split;
    none = λ lt. let z = h.none lt in omega arith;
    within =
        let b = h.within in
        let e : held_by work setup x N y * P ≡ held_by work setup x (h.later ++ h.earlier) y * P = ap (λ M. held_by work setup x M y * P) h.split in
        let m = mul-le n P (held_by work setup x N y) P most (omega arith) in
        omega (arith, b, within, e, m);
  }

  -- a step that leaves the clock
  stays : (N : List (Step W)) (y : Step W) → IsStretch N → total work P x (at (y ∷ N)) ≤ total work P x (at N) → (at (y ∷ N)).now ≡ (at N).now → IsStretch (y ∷ N)
  stays N y h less same = goes_on N y 0 h (omega arith) less (let e = ap (λ (v : ℕ). v * P) same in omega (arith, less, e))

  run_next : (N : List (Step W)) → AllAhead work P x (at N) → IsStretch N → (o : Option ℕ) → runner work (at N) ≡ o → IsStretch (Run ∷ N)
  run_next N ahead h None e = stays N Run h (rw e (omega arith)) (rw e refl)
  run_next N ahead h (Some s) e =
      let w = at N in
      let v = let_go w in
      let chose : chosen work v ≡ Some s = let same : chosen work v ≡ chosen work w = rw (let_go_faces work w) refl in same ∙ runner_chosen work P w s e in
      let fine = sound_let_go work P w (sound N) in
      let fewer = total_let_go work P x w (sound N) in
      elim (cases_lt x (account v.accounts s).state.deadline) [
        | inl near ↦
            let b = below_run work P x v s chose fine (ahead_let_go work P x w ahead) (all_loose w) near in
            let u : shares work P x v ≡ U = shares_let_go work P x w ∙ all_shares N in
            begins (Run ∷ N) (rw e (rw u at b))
        | inr far ↦
            let b = total_run work P x v s chose fine far in
            goes_on N Run 0 h (omega arith) (rw e (omega arith)) (rw e (omega arith))
      ]

  advance_next : (N : List (Step W)) (n : ℕ) → AllAhead work P x (at N) → IsStretch N → IsQuiet work (at N) n → leb ((at N).now + n) clock_end ≡ true → IsStretch (Advance n ∷ N)
  advance_next N zero ahead h q e = stays N (Advance zero) h (rw e (omega arith)) (rw e refl)
  advance_next N (suc n) ahead h q e =
      let w = at N in
      let v = let_go w in
      let b = below_rests work P x n v (sound_let_go work P w (sound N)) (ahead_let_go work P x w ahead) (all_loose w) (quiet_let_go work P w (suc n) q) in
      let u : shares work P x v ≡ U = shares_let_go work P x w ∙ all_shares N in
      let passed = now_ticks work P x (suc n) v in
      let line : (x - (ticks (suc n) v).now) * U ≡ (x - (v.now + suc n)) * shares work P x v =
      ap (λ (k : ℕ). (x - k) * U) passed ∙ ap (λ (k : ℕ). (x - (v.now + suc n)) * k) (sym u) in
      let below : total work P x (ticks (suc n) v) ≤ (x - (ticks (suc n) v).now) * U = omega (arith, b, line) in
      begins (Advance (suc n) ∷ N) (rw e below)

  charge_next : (N : List (Step W)) (s n : ℕ) → IsStretch N → (o : Option CoreError) → charge_refusal (at N) s n ≡ o → IsStretch (Charge s n ∷ N)
  charge_next N s zero h None e = stays N (Charge s zero) h (rw e (omega arith)) (rw e refl)
  charge_next N s (suc n) h None e =
      let w = at N in
      let place = charged_there work w s (suc n) e in
      let runs = charged_runs work w s (suc n) e in
      let v = paid work P x w s (suc n) place runs (sound N) in
      let a = total_ticks work P x (suc n) v (sound_charged work P w s (suc n) runs (sound N)) in
      let passed : (ticks (suc n) v).now * P ≡ (w.now + suc n) * P = ap (λ (k : ℕ). k * P) (now_ticks work P x (suc n) v) in
      elim (cases_lt x (due work P x w s (suc n) place runs (sound N))) [
        | inl late ↦
            let b = total_charge_late work P x w s (suc n) place runs (sound N) late in
            let t : ltb x (due work P x w s (suc n) place runs (sound N)) ≡ true = grind (arith, nat_tests) in
            let all : held_by work setup x N (Charge s (suc n)) ≡ suc n = rw (e, t) refl in
            let less : total work P x (ticks (suc n) v) ≤ total work P x w = omega (arith, a, b) in
            let within : total work P x (ticks (suc n) v) + (ticks (suc n) v).now * P ≤ total work P x w + (w.now + suc n) * P = omega (arith, a, b, passed) in
            goes_on N (Charge s (suc n)) (suc n) h (omega (arith, all)) (rw e less) (rw e within)
        | inr soon ↦
            let b = total_charge_soon work P x w s (suc n) place runs (sound N) soon in
            let less : total work P x (ticks (suc n) v) ≤ total work P x w = omega (arith, a, b) in
            let within : total work P x (ticks (suc n) v) + (ticks (suc n) v).now * P ≤ total work P x w + (w.now + 0) * P = omega (arith, a, b, passed) in
            goes_on N (Charge s (suc n)) 0 h (omega arith) (rw e less) (rw e within)
      ]
  charge_next N s zero h (Some err) e = stays N (Charge s zero) h (rw e (omega arith)) (rw e refl)
  charge_next N s (suc n) h (Some err) e = stays N (Charge s (suc n)) h (rw e (omega arith)) (rw e refl)

  submit_next : (N : List (Step W)) (s : ℕ) (job : W) → IsStretch N → (o : Option CoreError) → submit_refusal setup.backlog (faces work (at N)) s ≡ o → IsStretch (Submit s job ∷ N)
  submit_next N s job h None e =
      let w = at N in
      let c = sum_changed-le (asks work P w.now x) (asks work P w.now x) (account_with_job work w.now job) w.accounts s no_account (λ i lt. omega arith)
      (λ lt. asks_job work P w.now x (account w.accounts s) (sound_at work P w (sound N) s lt) job) in
      stays N (Submit s job) h (rw e c) (rw e refl)
  submit_next N s job h (Some err) e = stays N (Submit s job) h (rw e (omega arith)) (rw e refl)

  close_next : (N : List (Step W)) (s : ℕ) → IsStretch N → (o : Option CoreError) → close_refusal (faces work (at N)) s ≡ o → IsStretch (Close s ∷ N)
  close_next N s h None e =
      let c = sum_changed_same (asks work P (at N).now x) account_with_close (at N).accounts s (λ a. refl) in
      stays N (Close s) h (rw e (omega arith)) (rw e refl)
  close_next N s h (Some err) e = stays N (Close s) h (rw e (omega arith)) (rw e refl)

  -- each step that advances quietly goes on with a stretch, or begins one
  stretch_next : (N : List (Step W)) (y : Step W) → IsQuietAdvance work (at N) y → AllAhead work P x (at N) → IsStretch N → IsStretch (y ∷ N)
  stretch_next N (Submit s job) q ahead h = submit_next N s job h (submit_refusal setup.backlog (faces work (at N)) s) refl
  stretch_next N Run q ahead h = run_next N ahead h (runner work (at N)) refl
  stretch_next N (Advance n) q ahead h = elim (cases_Bool (leb ((at N).now + n) clock_end)) [
    | inl t ↦ let le : (at N).now + n ≤ clock_end = grind (arith, nat_tests) in advance_next N n ahead h (q le) t
    | inr f ↦ stays N (Advance n) h (rw f (omega arith)) (rw f refl)
  ]
  stretch_next N (Close s) q ahead h = close_next N s h (close_refusal (faces work (at N)) s) refl
  stretch_next N (Charge s n) q ahead h = charge_next N s n h (charge_refusal (at N) s n) refl

  -- new servers ask for no more than their share
  new_below : (ts : List Terms) → sum_by (asks work P 0 x) (map new_account ts) ≤ sum_by (λ (a : Account W). (x - 0) * share P a.terms.reservation) (map new_account ts)
  new_below [] = omega arith
  new_below (t ∷ ts) =
      let rest = new_below ts in
      let one = demand_ruled.idle P t.reservation 0 x fresh_state refl in
      omega (
        arith,
        sum_by-cons (asks work P 0 x) (new_account t) (map new_account ts),
        sum_by-cons (λ (a : Account W). (x - 0) * share P a.terms.reservation) (new_account t) (map new_account ts),
      )

  stretch_after : (N : List (Step W)) → AdvanceQuietly work setup N → IsStretch N
  stretch_after [] quiet =
      let new = new_below setup.servers in
      let t = sum_times (λ (a : Account W). share P a.terms.reservation) (x - 0) (start setup).accounts in
      let u = all_shares [] in
      let below : total work P x (start setup) ≤ (x - 0) * shares work P x (start setup) = omega (arith, new, t) in
      begins [] (rw u at below)
  stretch_after (y ∷ N) quiet = stretch_next N y quiet.1 ((paced_after work setup N ok quiet.0).ahead refl) (stretch_after N quiet.0)

module _ {W : Type 0} (work : Meaning W) (setup : Setup) (ok : IsAdmitted (given work setup)) where
  -- so a ready server's delay is made up
  pub recovery_kept : (N : List (Step W)) → KeepsRecovery work (given work setup) (record { setup = setup; steps = N })
  recovery_kept N = λ quiet s lt ready.
      let w = after work setup N in
      let a = account w.accounts s in
      let d = a.state.deadline in
      let rates = given work setup in
      let p = all_periods rates in
      let u = total_share rates in
      let pos = all_periods_some rates ok.lawful in
      let law = sound_at work p w (sound_after work setup N ok) s lt in
      let h = stretch_after work setup ok d N quiet in
      let t = (after work setup h.earlier).now in
      let one = asks_budget work p w.now d a law ready refl (ready_budget work a ready law.lawful) in
      let part : asks work p w.now d a ≤ sum_by (asks work p w.now d) w.accounts = get_or-le-sum_by (asks work p w.now d) w.accounts s no_account lt in
      let began : t ≤ d = elim (cases_lt d t) [ inl past ↦ let z = h.none past in absurd (omega arith) | inr le ↦ le ] in
      let k = held work setup d h.later h.earlier in
      let within : sum_by (asks work p w.now d) w.accounts + w.now * p ≤ (d - t) * u + (t + k) * p = h.within in
      let free : p ≡ (p - u) + u = let m = ok.at_most_one in omega arith in
      let span : (d - t) * p ≡ (d - t) * (p - u) + (d - t) * u = ap (λ (v : ℕ). (d - t) * v) free ∙ (omega arith) in
      let all : d ≡ (d - t) + t = omega arith in
      let whole : d * p ≡ ((d - t) + t) * p = ap (λ (v : ℕ). v * p) all in
      record { later = h.later; earlier = h.earlier; split = h.split; began = began; by = omega arith }

-- two ways to cut a list: one cut is within the front of the other
cuts : {X : Type 0} (a b c d : List X) → a ++ b ≡ c ++ d
    → ((l : List X) × ((c ≡ a ++ l) × (b ≡ l ++ d))) ⊎ ((l : List X) × ((a ≡ c ++ l) × (d ≡ l ++ b)))
cuts [] b c d e = inl (c, (refl, e))
cuts (x ∷ a) b [] d e = inr (x ∷ a, (refl, sym e))
cuts (x ∷ a) b (y ∷ c) d e =
    let first : x ≡ y = cc in
    let rest : a ++ b ≡ c ++ d = cc in
    elim (cuts a b c d rest) [
      | inl h ↦ inl (h.0, (rw first (ap (λ l. y ∷ l) h.1.0), h.1.1))
      | inr h ↦ inr (h.0, (rw first (ap (λ l. y ∷ l) h.1.0), h.1.1))
    ]

module _ {W : Type 0} (work : Meaning W) (setup : Setup) where
  -- the clock never goes back
  now_run : (w : World W) (o : Option ℕ) → w.now ≤ (after_run w o).now
  now_run w None = omega arith
  now_run w (Some s) = omega arith

  now_submit : (w : World W) (s : ℕ) (job : W) (o : Option CoreError) → w.now ≤ (after_submit work w s job o).now
  now_submit w s job None = omega arith
  now_submit w s job (Some e) = omega arith

  now_close : (w : World W) (s : ℕ) (o : Option CoreError) → w.now ≤ (after_closing w s o).now
  now_close w s None = omega arith
  now_close w s (Some e) = omega arith

  now_charge : (w : World W) (s n : ℕ) (o : Option CoreError) → w.now ≤ (after_charging w s n o).now
  now_charge w s zero None = omega arith
  now_charge w s (suc n) None = let e = now_ticks work 0 0 (suc n) (record w { accounts = changed_at (account_with_charge (suc n)) w.accounts s }) in omega arith
  now_charge w s zero (Some e) = omega arith
  now_charge w s (suc n) (Some e) = omega arith

  now_advance : (w : World W) (n : ℕ) → w.now ≤ (after_advance w n).now
  now_advance w zero = omega arith
  now_advance w (suc n) = let e = now_ticks work 0 0 (suc n) (let_go w) in omega arith

  now_next : (w : World W) (y : Step W) → w.now ≤ (next work setup.backlog w y).now
  now_next w (Submit s job) = now_submit w s job (submit_refusal setup.backlog (faces work w) s)
  now_next w Run = now_run w (runner work w)
  now_next w (Advance n) = elim (cases_Bool (leb (w.now + n) clock_end)) [ inl t ↦ rw t (now_advance w n) | inr f ↦ rw f (omega arith) ]
  now_next w (Close s) = now_close w s (close_refusal (faces work w) s)
  now_next w (Charge s n) = now_charge w s n (charge_refusal w s n)

  now_later : (K M : List (Step W)) → (after work setup M).now ≤ (after work setup (K ++ M)).now
  now_later [] M = omega arith
  now_later (y ∷ K) M = let a = now_later K M in let b = now_next (after work setup (K ++ M)) y in omega arith

  -- what is held up was charged
  held-one : (x : ℕ) (M : List (Step W)) (y : Step W) → held_by work setup x M y ≤ charged_by work setup M y
  held-one x M (Submit s job) = omega arith
  held-one x M Run = omega arith
  held-one x M (Advance n) = omega arith
  held-one x M (Close s) = omega arith
  held-one x M (Charge s n) = grind (arith, nat_tests)

  held-le : (x : ℕ) (K M : List (Step W)) → held work setup x K M ≤ charged work setup K M
  held-le x [] M = omega arith
  held-le x (y ∷ K) M = let a = held-le x K M in let b = held-one x (K ++ M) y in omega arith

  -- the charges of two lists of steps, one after the other
  charged_both : (K L M : List (Step W)) → charged work setup (K ++ L) M ≡ charged work setup K (L ++ M) + charged work setup L M
  charged_both [] L M = omega arith
  charged_both (y ∷ K) L M =
      let a = charged_both K L M in
      let e : charged_by work setup ((K ++ L) ++ M) y ≡ charged_by work setup (K ++ (L ++ M)) y = ap (λ N. charged_by work setup N y) (append_assoc K L M) in
      omega (arith, a, e)

  charged_one : (M : List (Step W)) (s n : ℕ) → charged_by work setup M (Charge s n) ≤ n
  charged_one M s n = grind (arith, nat_tests)

  -- the ticks that are charged from a step on, of which one alone charges any
  charged_cut : (K M later earlier l : List (Step W)) (c n : ℕ) → charged work setup K (Charge c n ∷ M) ≡ 0 → charged work setup M [] ≡ 0
      → later ≡ K ++ l → Charge c n ∷ M ≡ l ++ earlier
      → (charged work setup later earlier ≡ 0) ⊎ ((charged work setup later earlier ≤ n) × ((after work setup earlier).now ≤ (after work setup M).now))
  charged_cut K M later earlier [] c n before after' front back =
      let both = charged_both K [] earlier in
      let e : charged work setup K earlier ≡ charged work setup K (Charge c n ∷ M) = ap (λ N. charged work setup K N) (sym back) in
      inl (rw front (omega (arith, both, e, before)))
  charged_cut K M later earlier (y ∷ l) c n before after' front back =
      let first : Charge c n ≡ y = cc in
      let rest : M ≡ l ++ earlier = cc in
      let both = charged_both K (y ∷ l) earlier in
      let e : charged work setup K ((y ∷ l) ++ earlier) ≡ charged work setup K (Charge c n ∷ M) = ap (λ N. charged work setup K N) (sym back) in
      let one : charged_by work setup (l ++ earlier) y ≤ n = rw (← first) (charged_one (l ++ earlier) c n) in
      let older = charged_both l earlier [] in
      let none : charged work setup (l ++ earlier) [] ≡ 0 = rw rest at after' in
      let same : charged work setup l (earlier ++ []) ≡ charged work setup l earlier = ap (λ N. charged work setup l N) (append-nil earlier) in
      inr (rw front (omega (arith, both, e, before, one, older, none, same)), rw rest (now_later l earlier))

  -- so one charge is made up
  pub one_recovered : (rates : List Rate) → ((N : List (Step W)) → KeepsRecovery work rates (record { setup = setup; steps = N })) → 0 < all_periods rates
      → KeepsOneRecovery work rates setup
  one_recovered rates all pos K M c n s = λ quiet later earlier lt ready late.
      let p = all_periods rates in
      let free = all_periods rates - total_share rates in
      let N = K ++ Charge c n ∷ M in
      let w = after work setup N in
      let d = (account w.accounts s).state.deadline in
      let h = all N quiet s lt ready in
      let begun = (after work setup h.earlier).now in
      let t = (after work setup M).now in
      let holds = held work setup d h.later h.earlier in
      let less = held-le d h.later h.earlier in
      let by : w.now * p + (d - begun) * free < (d + holds) * p = h.by in
      let m = mul-le d p w.now p late (omega arith) in
      elim (cuts K (Charge c n ∷ M) h.later h.earlier h.split) [
        | inl (l, (front, back)) ↦ elim (charged_cut K M h.later h.earlier l c n later earlier front back) [
          | inl none ↦ let z : holds * p ≡ 0 = let e : holds ≡ 0 = omega (arith, less, none) in rw e (omega arith) in absurd (omega (arith, by, z, m))
          | inr (most, before) ↦
              let a = mul-le (d - t) free (d - begun) free (omega (arith, before)) (omega arith) in
              let b = mul-le holds p n p (omega (arith, less, most)) (omega arith) in
              omega (arith, by, a, b)
        ]
        | inr (l, (front, back)) ↦
            let none : charged work setup (h.later ++ l) (Charge c n ∷ M) ≡ 0 = rw front at later in
            let both = charged_both h.later l (Charge c n ∷ M) in
            let here : charged work setup h.later h.earlier ≡ charged work setup h.later (l ++ Charge c n ∷ M) = ap (λ e. charged work setup h.later e) back in
            let zero : holds * p ≡ 0 = let z : holds ≡ 0 = omega (arith, less, here, both, none) in rw z (omega arith) in
            absurd (omega (arith, by, zero, m))
      ]

module _ {W : Type 0} (work : Meaning W) where
  -- new servers have the reservations that they were given
  given_rates : (modes : List Mode) (rates : List Rate) → length modes ≡ length rates → map (reservation work) (map new_account (terms_of modes rates)) ≡ rates
  given_rates [] [] e = refl
  given_rates [] (r ∷ rates) e = cc
  given_rates (m ∷ modes) [] e = cc
  given_rates (m ∷ modes) (r ∷ rates) e = ap (λ rs. r ∷ rs) (given_rates modes rates (omega arith))

  -- so it is of the servers of a plan
  pub plan_recovery : (plan : Planned) (modes : List Mode) (backlog : ℕ) → IsPlan plan → length modes ≡ length plan.rates → (steps : List (Step W))
      → KeepsRecovery work plan.rates (history_of modes plan.rates backlog steps)
  plan_recovery plan modes backlog ok same steps =
      let setup : Setup = setup_of modes plan.rates backlog in
      let e = given_rates modes plan.rates same in
      rw e at (recovery_kept work setup (rw e record { lawful = ok.lawful; at_most_one = ok.at_most_one }) steps)

  pub plan_one : (plan : Planned) (modes : List Mode) (backlog : ℕ) → IsPlan plan → length modes ≡ length plan.rates
      → KeepsOneRecovery work plan.rates (setup_of modes plan.rates backlog)
  plan_one plan modes backlog ok same =
      one_recovered work (setup_of modes plan.rates backlog) plan.rates (plan_recovery plan modes backlog ok same)
      (all_periods_some plan.rates ok.lawful)
