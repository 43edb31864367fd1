-- On time but for charges: what the servers may ask for is at most the time that is left, and what those with a later
-- deadline may have held the clock up by charges. If each advance is quiet, every step keeps it.
use Rattle.std.proofs.Common.{◌≡◌, ℕ, zero, suc, ◌+◌, ◌-◌, ◌*◌, ◌≤◌, ◌<◌, true, false, ltb, leb, ◌||◌, ◌⊎◌, List, [], ◌∷◌, length, map, arith, refl, inl, inr, ap, Option, Some, None, ◌∙◌}
use Rattle.std.specs.Prelude.{if◌then◌else◌}
use Rattle.std.specs.List.{sum_by, AllByRecursion}
use Rattle.std.proofs.lemmas.Bool.{cases_lt, cases_Bool}
use Rattle.std.proofs.lemmas.Bool.Decides.{nat_tests}
use Rattle.std.proofs.lemmas.Nat.{mul-le}
use Rattle.cbs_job.specs.Work.{Meaning}
use Rattle.cbs_rate.specs.Rate.{Rate}
use Rattle.cbs_rate.specs.Plan.{share}
use Rattle.cbs_rules.specs.Rules.{clock_end, until, after_replenishment}
use Rattle.cbs_rules.proofs.Paid.{charge_paid, replenished_until}
use Rattle.cbs_lists.specs.Lists.{changed_at}
use Rattle.cbs_lists.proofs.Lists.{AllByRecursion-map, AllByRecursion-mapped, AllByRecursion-get, AllByRecursion-changed_at}
use Rattle.cbs_lists.proofs.Sums.{sum_map, sum-mono, sum_changed, sum_changed-le, sum_changed_same, sum_raised, sum_raised-le}
use Rattle.cbs_steps.specs.Faces.{is_active, is_ready, submit_refusal, close_refusal}
use Rattle.cbs_steps.specs.Accounts.{Account, face_of, no_account, account_with_job, account_with_unit, account_with_charge, account_with_replenishment, account_with_close, account_let_go}
use Rattle.cbs_steps.specs.History.{World, account, faces, chosen, tick, ticks, runner, after_submit, after_run, after_closing, after_advance, after_charging, charge_refusal, let_go, next}
use Rattle.cbs_steps.specs.OnTime.{demand_of, full_demand, share_until, IsAhead}
use Rattle.cbs_steps.specs.Paced.{asked, held_up, pace_of}
use Rattle.cbs_steps.specs.Quiet.{IsAtRest, IsQuiet, IsQuietAdvance}
use Rattle.cbs_steps.specs.declared.error.CoreError.{CoreError}
use Rattle.cbs_steps.specs.declared.step.Step.{Step}
use Rattle.cbs_steps.specs.declared.step.Step.TheVariants.{Submit, Run, Advance, Close, Charge}
use Rattle.cbs_steps.proofs.Demands.{demand-le, demand_busy, demand_before, job-less, fewer-le, tick-le, rest_line, tick_before, run_less, run_before, paid_less, arrival_later}
use Rattle.cbs_steps.proofs.Faces.{runnable}
use Rattle.cbs_steps.proofs.Histories.{chosen_is_ready, charged_runs, charged_there, let_go_faces}
use Rattle.cbs_steps.proofs.LawfulServers.{ready_begun}
use Rattle.cbs_steps.proofs.OnTimeSteps.{IsSound, AllSound, ahead_arrived, all_ahead, chosen_least, lines_fit, quiet_let_go, quiet_more, runner_chosen, sound_at, sound_tick, sound_let_go, sound_charged}

module _ {W : Type 0} (work : Meaning W) where
  -- the demand of a server, which counts as active while it runs
  abbrev pub asks : ℕ → ℕ → ℕ → Account W → ℕ
  asks P now x a = asked P now x (pace_of work a)

  -- the ticks by which charges of a server may have held up those whose deadline is x
  abbrev pub blocks : ℕ → Account W → ℕ
  blocks x a = held_up x (pace_of work a)

  -- paced after k ticks more
  pub record IsPacedIn (P k : ℕ) (w : World W) : Type 0 where
    pub within : (x : ℕ) → 0 < sum_by (asks P w.now x) w.accounts
        → sum_by (asks P w.now x) w.accounts + (w.now + k) * P ≤ x * P + sum_by (blocks x) w.accounts * P
    pub ahead : k ≡ 0 → AllByRecursion (λ a. IsAhead w.now (face_of work a)) w.accounts

-- of a sum below all shares
pub shared_out : (P now x d b : ℕ) → d ≤ (x - now) * P → 0 < d → d + now * P ≤ x * P + b * P
shared_out P now x d b le some = elim (cases_lt x now) [
  | inl past ↦ let z : x - now ≡ 0 = omega arith in let e : (x - now) * P ≡ 0 = rw z (omega arith) in absurd (omega arith)
  | inr early ↦ let e : x ≡ now + (x - now) = omega arith in let m = ap (λ (v : ℕ). v * P) e in omega arith
]

-- one that holds up for a later deadline holds up no less
later-blocks : (x d e v : ℕ) → d ≤ e → (if ltb x d then v else 0) ≤ (if ltb x e then v else 0)
later-blocks x d e v h = grind (arith, nat_tests)

module _ {W : Type 0} (work : Meaning W) (P x : ℕ) (a : Account W) where
  -- a server holds nobody up from its deadline on, and all before it
  pub blocks_none : until a.terms.reservation a.state ≤ x → blocks work x a ≡ 0
  blocks_none h = let f : ltb x (until a.terms.reservation a.state) ≡ false = grind (arith, nat_tests) in rw f refl

  blocks_all : x < until a.terms.reservation a.state → blocks work x a ≡ (if a.runs then a.latest else a.charges.most)
  blocks_all h = let t : ltb x (until a.terms.reservation a.state) ≡ true = grind (arith, nat_tests) in rw t refl

  -- it holds up no more once it is let go, and asks for no more
  blocks_let_go : a.latest ≤ a.charges.most → blocks work x a ≤ blocks work x (account_let_go a)
  blocks_let_go within = grind (arith, nat_tests)

module _ {W : Type 0} (work : Meaning W) (P now x : ℕ) (a : Account W) (ok : IsSound work P a) where
  abbrev r : Rate
  r = a.terms.reservation

  pub asks_let_go : asks work P now x (account_let_go a) ≤ asks work P now x a
  asks_let_go = fewer-le P r now x a.runs (is_active (face_of work a)) a.state

  -- a job asks for no more
  pub asks_job : (job : W) → asks work P now x (account_with_job work now job a) ≤ asks work P now x a
  asks_job job = job-less P r now x (a.runs || is_active (face_of work (account_with_job work now job a))) (is_active (face_of work a)) a.runs a.terms.mode a.state
      ok.divides ok.lawful.rate ok.lawful.state.capped

  -- and holds up no less
  blocks_job : (job : W) → blocks work x a ≤ blocks work x (account_with_job work now job a)
  blocks_job job = later-blocks x (until r a.state) (until r (account_with_job work now job a).state) (if a.runs then a.latest else a.charges.most)
      (elim (cases_Bool (is_active (face_of work a) || a.state.throttled)) [
        | inl t ↦ rw t (omega arith)
        | inr f ↦ rw f (arrival_later a.terms.mode r now a.state ok.lawful.rate ok.lawful.state.capped (grind (arith, nat_tests)))
      ])

  -- a tick asks for no more
  pub asks_tick : asks work P (now + 1) x (account_with_replenishment (now + 1) a) ≤ asks work P now x a
  asks_tick = tick-le P r ok.divides now x (a.runs || is_active (face_of work a)) a.state ok.lawful.state

  -- and holds up as much
  blocks_tick : blocks work x (account_with_replenishment (now + 1) a) ≡ blocks work x a
  blocks_tick = rw (replenished_until r (now + 1) a.state) refl

  -- if it was not ready and does not run, it is below its share
  pub asks_rest : is_ready (face_of work a) ≡ false → a.runs ≡ false → IsAhead now (face_of work a)
      → asks work P (now + 1) x (account_with_replenishment (now + 1) a) ≤ share_until P r (now + 1) x
  asks_rest rest loose ahead =
      let le : demand_of P r (now + 1) x (is_active (face_of work a)) (after_replenishment r (now + 1) a.state) ≤ share_until P r (now + 1) x =
      rest_line P r ok.divides now x (is_active (face_of work a)) a.state ok.lawful.state rest ahead in
      rw loose le

  -- before the deadline nothing is asked for
  pub asks_before : x < a.state.deadline → asks work P (now + 1) x (account_with_replenishment (now + 1) a) ≡ 0
  asks_before h = tick_before P r ok.divides now x (a.runs || is_active (face_of work a)) a.state ok.lawful.state h

  module _ (ready : is_ready (face_of work a) ≡ true) where
    free : a.state.throttled ≡ false
    free = (runnable (face_of work a) ready).free

    -- a unit and a tick ask for a tick less, from the deadline on
    pub asks_run : a.state.deadline ≤ x → asks work P (now + 1) x (account_with_replenishment (now + 1) (account_with_unit a)) + P ≤ asks work P now x a
    asks_run far =
        let all : asks work P now x a ≡ full_demand P r a.state x = demand_busy P r now x (a.runs || is_active (face_of work a)) a.state (grind (arith, nat_tests)) in
        let less = run_less P r ok.divides ok.lawful.rate a.terms.mode now x true a.state ok.lawful.state free (ready_begun work a ready ok.lawful) far in
        rw all less

    -- and for nothing before
    pub asks_run_before : x < a.state.deadline → asks work P (now + 1) x (account_with_replenishment (now + 1) (account_with_unit a)) ≡ 0
    asks_run_before near = run_before P r ok.divides ok.lawful.rate a.terms.mode now x true a.state ok.lawful.state free (ready_begun work a ready ok.lawful) near

    -- from the deadline on it held up nobody
    blocks_run : a.state.deadline ≤ x → blocks work x a ≡ 0
    blocks_run far = blocks_none work P x a (let f = free in let u : until r a.state ≡ a.state.deadline = rw f refl in omega arith)

  -- a charge of n ticks of a server that runs asks for so many ticks less, or moves its deadline past x and holds up so
  -- many more
  charge_trades : (n : ℕ) → a.runs ≡ true
      → (let c = account_with_charge n a in
      ((asks work P now x c + n * P ≤ asks work P now x a) × (blocks work x a ≤ blocks work x c))
      ⊎ ((asks work P now x c ≤ asks work P now x a) × (blocks work x a + n ≤ blocks work x c)))
  charge_trades n runs =
      let c = account_with_charge n a in
      let p = charge_paid a.terms.mode r n a.state ok.lawful.rate.some ok.lawful.state ok.lawful.free in
      let q = p.postponed in
      let later : until r a.state ≤ until r c.state = omega arith in
      elim (cases_lt x (until r c.state)) [
        | inl lt ↦
            let z = demand_before P r now x (c.runs || is_active (face_of work c)) c.state lt in
            let all = blocks_all work P x c lt in
            let more : (if c.runs then c.latest else c.charges.most) ≡ a.latest + n = rw runs refl in
            let some : blocks work x a ≤ a.latest = elim (cases_lt x (until r a.state)) [
              | inl near ↦
                  let k = blocks_all work P x a near in
                  let v : (if a.runs then a.latest else a.charges.most) ≡ a.latest = rw runs refl in
                  omega arith
              | inr far ↦ let k = blocks_none work P x a far in omega arith
            ] in
            inr (omega arith, omega arith)
        | inr ge ↦
            let none = blocks_none work P x a (omega arith) in
            let m = demand-le P r now x (c.runs || is_active (face_of work c)) c.state in
            let busy : asks work P now x a ≡ full_demand P r a.state x = demand_busy P r now x (a.runs || is_active (face_of work a)) a.state (rw runs refl) in
            let l = paid_less P r ok.divides n a.state c.state x p ge in
            inl (omega arith, omega arith)
      ]

module _ {W : Type 0} where
  -- nobody runs
  abbrev pub AllLoose : World W → Type 0
  AllLoose w = AllByRecursion (λ a. a.runs ≡ false) w.accounts

  -- so it is once all are let go
  pub all_loose : (w : World W) → AllLoose (let_go w)
  all_loose w = go w.accounts
    where
      go : (accounts : List (Account W)) → AllByRecursion (λ a. a.runs ≡ false) (map account_let_go accounts)
      go [] = tt
      go (a ∷ accounts) = (refl, go accounts)

module _ {W : Type 0} (work : Meaning W) (P : ℕ) where
  -- a submit keeps it
  paced_submit : (w : World W) (s : ℕ) (job : W) (o : Option CoreError) → AllSound work P w → IsPacedIn work P 0 w → IsPacedIn work P 0 (after_submit work w s job o)
  paced_submit w s job None ok on = record {
    within = λ x some.
        let c = sum_changed-le (asks work P w.now x) (asks work P w.now x) (account_with_job work w.now job) w.accounts s no_account (λ i lt. omega arith)
        (λ lt. asks_job work P w.now x (account w.accounts s) (sound_at work P w ok s lt) job) in
        let r = sum_raised-le (blocks work x) (blocks work x) (account_with_job work w.now job) w.accounts s no_account (λ i lt. omega arith)
        (λ lt. blocks_job work P w.now x (account w.accounts s) (sound_at work P w ok s lt) job) in
        let b = on.within x (omega arith) in
        let d = mul-le (sum_by (blocks work x) w.accounts) P (sum_by (blocks work x) (changed_at (account_with_job work w.now job) w.accounts s)) P r (omega arith) in
        omega arith;
    ahead = λ z. AllByRecursion-changed_at (λ a. IsAhead w.now (face_of work a)) (λ a. IsAhead w.now (face_of work a))
        (account_with_job work w.now job) w.accounts s no_account (on.ahead z) (λ a h. h) (ahead_arrived w.now (face_of work (account w.accounts s)));
  }
  paced_submit w s job (Some e) ok on = on

  -- so does a close
  paced_close : (w : World W) (s : ℕ) (o : Option CoreError) → IsPacedIn work P 0 w → IsPacedIn work P 0 (after_closing w s o)
  paced_close w s None on = record {
    within = λ x some. rw (sum_changed_same (asks work P w.now x) account_with_close w.accounts s (λ a. refl), sum_changed_same (blocks work x) account_with_close w.accounts s (λ a. refl))
        (on.within x (rw (sum_changed_same (asks work P w.now x) account_with_close w.accounts s (λ a. refl)) at some));
    ahead = λ z. AllByRecursion-changed_at (λ a. IsAhead w.now (face_of work a)) (λ a. IsAhead w.now (face_of work a)) account_with_close
        w.accounts s no_account (on.ahead z) (λ a h. h) (λ h. h);
  }
  paced_close w s (Some e) on = on

  -- so does it that all are let go
  paced_let_go : (w : World W) → AllSound work P w → IsPacedIn work P 0 w → IsPacedIn work P 0 (let_go w)
  paced_let_go w ok on = record {
    within = λ x some.
        let e = sum_map (asks work P w.now x) account_let_go w.accounts in
        let f = sum_map (blocks work x) account_let_go w.accounts in
        let m = sum-mono (λ a. asks work P w.now x (account_let_go a)) (asks work P w.now x) w.accounts no_account
        (λ i lt. asks_let_go work P w.now x (account w.accounts i) (sound_at work P w ok i lt)) in
        let n = sum-mono (blocks work x) (λ a. blocks work x (account_let_go a)) w.accounts no_account
        (λ i lt. blocks_let_go work P x (account w.accounts i) (sound_at work P w ok i lt).lawful.within) in
        let b = on.within x (omega arith) in
        let d = mul-le (sum_by (blocks work x) w.accounts) P (sum_by (λ a. blocks work x (account_let_go a)) w.accounts) P n (omega arith) in
        rw (e, f) (omega arith);
    ahead = λ z. AllByRecursion-map (λ a. IsAhead w.now (face_of work a)) (λ a. IsAhead w.now (face_of work a)) account_let_go w.accounts (on.ahead z) (λ a h. h);
  }

  -- and a tick that is counted already
  paced_tick : (k : ℕ) (w : World W) → AllSound work P w → IsPacedIn work P (suc k) w → IsPacedIn work P k (tick w)
  paced_tick k w ok on = record {
    within = λ x some.
        let e = sum_map (asks work P (w.now + 1) x) (account_with_replenishment (w.now + 1)) w.accounts in
        let f = sum_map (blocks work x) (account_with_replenishment (w.now + 1)) w.accounts in
        let m = sum-mono (λ a. asks work P (w.now + 1) x (account_with_replenishment (w.now + 1) a)) (asks work P w.now x) w.accounts no_account
        (λ i lt. asks_tick work P w.now x (account w.accounts i) (sound_at work P w ok i lt)) in
        let n = sum-mono (blocks work x) (λ a. blocks work x (account_with_replenishment (w.now + 1) a)) w.accounts no_account
        (λ i lt. let q = blocks_tick work P w.now x (account w.accounts i) (sound_at work P w ok i lt) in omega arith) in
        let b = on.within x (omega arith) in
        let d = mul-le (sum_by (blocks work x) w.accounts) P (sum_by (λ a. blocks work x (account_with_replenishment (w.now + 1) a)) w.accounts) P n (omega arith) in
        let t : (w.now + suc k) * P ≡ (w.now + 1 + k) * P = let q : w.now + suc k ≡ w.now + 1 + k = omega arith in ap (λ (v : ℕ). v * P) q in
        rw (e, f) (omega arith);
    ahead = λ z. all_ahead work P (w.now + 1) w.accounts;
  }

  -- and n of them
  paced_ticks : (n : ℕ) (w : World W) → AllSound work P w → IsPacedIn work P n w → IsPacedIn work P 0 (ticks n w)
  unfolding ticks
  paced_ticks zero w ok on = on
  paced_ticks (suc n) w ok on = paced_ticks n (tick w) (sound_tick work P w ok) (paced_tick n w ok on)

  loose_tick : (w : World W) → AllLoose w → AllLoose (tick w)
  loose_tick w loose = AllByRecursion-map (λ a. a.runs ≡ false) (λ a. a.runs ≡ false) (account_with_replenishment (w.now + 1)) w.accounts loose (λ a h. h)

  -- a tick in which no server is ready, and none runs
  paced_rest : (w : World W) → AllSound work P w → IsPacedIn work P 0 w → AllLoose w → IsAtRest work w → IsPacedIn work P 0 (tick w)
  paced_rest w ok on loose rest =
      let rests = AllByRecursion-mapped (λ f. is_ready f ≡ false) (face_of work) w.accounts rest in
      record {
        within = λ x some.
            let e = sum_map (asks work P (w.now + 1) x) (account_with_replenishment (w.now + 1)) w.accounts in
            let m = sum-mono (λ a. asks work P (w.now + 1) x (account_with_replenishment (w.now + 1) a)) (λ a. (x - (w.now + 1)) * share P a.terms.reservation) w.accounts no_account
            (λ i lt. asks_rest work P w.now x (account w.accounts i) (sound_at work P w ok i lt)
            (AllByRecursion-get (λ a. is_ready (face_of work a) ≡ false) w.accounts i no_account rests lt)
            (AllByRecursion-get (λ a. a.runs ≡ false) w.accounts i no_account loose lt)
            (AllByRecursion-get (λ a. IsAhead w.now (face_of work a)) w.accounts i no_account (on.ahead refl) lt)) in
            let f = lines_fit work P w (x - (w.now + 1)) ok in
            let k = sum_by (blocks work x) (tick w).accounts in
            let goal : sum_by (asks work P (w.now + 1) x) (tick w).accounts + (w.now + 1) * P ≤ x * P + k * P =
            shared_out P (w.now + 1) x (sum_by (asks work P (w.now + 1) x) (tick w).accounts) k (rw e (omega arith)) some in
            let z : w.now + 1 + 0 ≡ w.now + 1 = omega arith in
            rw z goal;
        ahead = λ z. all_ahead work P (w.now + 1) w.accounts;
      }

  -- n such ticks
  paced_rests : (n : ℕ) (w : World W) → AllSound work P w → IsPacedIn work P 0 w → AllLoose w → IsQuiet work w n → IsPacedIn work P 0 (ticks n w)
  unfolding ticks
  paced_rests zero w ok on loose q = on
  paced_rests (suc n) w ok on loose q = paced_rests n (tick w) (sound_tick work P w ok) (paced_rest w ok on loose (q 0 (omega arith))) (loose_tick w loose)
      (quiet_more work P w n q)

  -- a unit of the chosen server, if no server runs, and the tick after it
  paced_run_one : (w : World W) (s : ℕ) → chosen work w ≡ Some s → AllSound work P w → IsPacedIn work P 0 w → AllLoose w
      → IsPacedIn work P 0 (tick (record w { accounts = changed_at account_with_unit w.accounts s }))
  paced_run_one w s chose ok on loose =
      let best = chosen_least work P w s chose in
      let ready = chosen_is_ready work w s chose in
      record {
        within = λ x some.
            let f = λ (a : Account W). asks work P (w.now + 1) x (account_with_replenishment (w.now + 1) a) in
            let b = λ (a : Account W). blocks work x (account_with_replenishment (w.now + 1) a) in
            let e = sum_map (asks work P (w.now + 1) x) (account_with_replenishment (w.now + 1)) (changed_at account_with_unit w.accounts s) in
            let g = sum_map (blocks work x) (account_with_replenishment (w.now + 1)) (changed_at account_with_unit w.accounts s) in
            elim (cases_lt x (account w.accounts s).state.deadline) [
              | inl near ↦
                  let m : sum_by f (changed_at account_with_unit w.accounts s) ≤ sum_by (λ a. (x - (w.now + 1)) * share P a.terms.reservation) w.accounts =
                  sum_changed-le f (λ a. (x - (w.now + 1)) * share P a.terms.reservation) account_with_unit w.accounts s no_account
                  (λ i lt. elim (cases_Bool (is_ready (face_of work (account w.accounts i)))) [
                    | inl t ↦
                        let l = best.least i lt t in
                        let z = asks_before work P w.now x (account w.accounts i) (sound_at work P w ok i lt) (omega arith) in
                        omega arith
                    | inr n ↦ asks_rest work P w.now x (account w.accounts i) (sound_at work P w ok i lt) n
                        (AllByRecursion-get (λ a. a.runs ≡ false) w.accounts i no_account loose lt)
                        (AllByRecursion-get (λ a. IsAhead w.now (face_of work a)) w.accounts i no_account (on.ahead refl) lt)
                  ])
                  (λ lt. let z = asks_run_before work P w.now x (account w.accounts s) (sound_at work P w ok s lt) ready near in omega arith) in
                  let l = lines_fit work P w (x - (w.now + 1)) ok in
                  let v = tick (record w { accounts = changed_at account_with_unit w.accounts s }) in
                  let goal : sum_by (asks work P (w.now + 1) x) v.accounts + (w.now + 1) * P ≤ x * P + sum_by (blocks work x) v.accounts * P =
                  shared_out P (w.now + 1) x (sum_by (asks work P (w.now + 1) x) v.accounts) (sum_by (blocks work x) v.accounts) (rw e (omega arith)) some in
                  let z : w.now + 1 + 0 ≡ w.now + 1 = omega arith in
                  rw z goal
              | inr far ↦
                  let m : sum_by f (changed_at account_with_unit w.accounts s) + P ≤ sum_by (asks work P w.now x) w.accounts =
                  sum_changed f (asks work P w.now x) account_with_unit w.accounts s P no_account best.place
                  (λ i lt. asks_tick work P w.now x (account w.accounts i) (sound_at work P w ok i lt))
                  (asks_run work P w.now x (account w.accounts s) (sound_at work P w ok s best.place) ready far) in
                  let r : sum_by (blocks work x) w.accounts ≤ sum_by b (changed_at account_with_unit w.accounts s) =
                  sum_raised-le (blocks work x) b account_with_unit w.accounts s no_account
                  (λ i lt. let q = blocks_tick work P w.now x (account w.accounts i) (sound_at work P w ok i lt) in omega arith)
                  (λ lt. let z = blocks_run work P w.now x (account w.accounts s) (sound_at work P w ok s lt) ready far in omega arith) in
                  let k : 0 < sum_by (asks work P w.now x) w.accounts = let q = rw e at some in omega arith in
                  let c = on.within x k in
                  let d = mul-le (sum_by (blocks work x) w.accounts) P (sum_by b (changed_at account_with_unit w.accounts s)) P r (omega arith) in
                  rw (e, g) (omega arith)
            ];
        ahead = λ z. all_ahead work P (w.now + 1) (changed_at account_with_unit w.accounts s);
      }

  -- a charge of a server that runs, whose ticks are still to pass
  paced_charged : (w : World W) (s n : ℕ) → s < length w.accounts → (account w.accounts s).runs ≡ true → AllSound work P w → IsPacedIn work P 0 w
      → IsPacedIn work P (suc n) (record w { accounts = changed_at (account_with_charge (suc n)) w.accounts s })
  paced_charged w s n place runs ok on = record {
    within = λ x some.
        let m = suc n in
        let b = sum_by (blocks work x) w.accounts in
        let c = sum_by (blocks work x) (changed_at (account_with_charge m) w.accounts s) in
        elim (charge_trades work P w.now x (account w.accounts s) (sound_at work P w ok s place) m runs) [
          | inl (less, kept) ↦
              let l : sum_by (asks work P w.now x) (changed_at (account_with_charge m) w.accounts s) + m * P ≤ sum_by (asks work P w.now x) w.accounts =
              sum_changed (asks work P w.now x) (asks work P w.now x) (account_with_charge m) w.accounts s (m * P) no_account place (λ i lt. omega arith) less in
              let r : b ≤ c = sum_raised-le (blocks work x) (blocks work x) (account_with_charge m) w.accounts s no_account (λ i lt. omega arith) (λ lt. kept) in
              let on' = on.within x (omega arith) in
              let d = mul-le b P c P r (omega arith) in
              omega arith
          | inr (kept, more) ↦
              let l : sum_by (asks work P w.now x) (changed_at (account_with_charge m) w.accounts s) ≤ sum_by (asks work P w.now x) w.accounts =
              sum_changed-le (asks work P w.now x) (asks work P w.now x) (account_with_charge m) w.accounts s no_account (λ i lt. omega arith) (λ lt. kept) in
              let r : b + m ≤ c = sum_raised (blocks work x) (blocks work x) (account_with_charge m) w.accounts s m no_account place (λ i lt. omega arith) more in
              let on' = on.within x (omega arith) in
              let d = mul-le (b + m) P c P r (omega arith) in
              omega arith
        ];
    ahead = λ z. absurd (omega arith);
  }

  -- a run, whether a server runs or none
  paced_run : (w : World W) (o : Option ℕ) → ((s : ℕ) → o ≡ Some s → chosen work w ≡ Some s) → AllSound work P w → IsPacedIn work P 0 w → IsPacedIn work P 0 (after_run w o)
  paced_run w None chose ok on = on
  paced_run w (Some s) chose ok on =
      let same : chosen work (let_go w) ≡ chosen work w = rw (let_go_faces work w) refl in
      paced_run_one (let_go w) s (same ∙ chose s refl) (sound_let_go work P w ok) (paced_let_go w ok on) (all_loose w)

  -- an advance
  paced_advance : (w : World W) (n : ℕ) → AllSound work P w → IsPacedIn work P 0 w → IsQuiet work w n → IsPacedIn work P 0 (after_advance w n)
  paced_advance w zero ok on q = on
  paced_advance w (suc n) ok on q = paced_rests (suc n) (let_go w) (sound_let_go work P w ok) (paced_let_go w ok on) (all_loose w) (quiet_let_go work P w (suc n) q)

  -- a charge
  paced_charge : (w : World W) (s n : ℕ) (o : Option CoreError) → (o ≡ None → (s < length w.accounts) × ((account w.accounts s).runs ≡ true))
      → AllSound work P w → IsPacedIn work P 0 w → IsPacedIn work P 0 (after_charging w s n o)
  paced_charge w s zero None may ok on = on
  paced_charge w s (suc n) None may ok on =
      let m = may refl in
      paced_ticks (suc n) (record w { accounts = changed_at (account_with_charge (suc n)) w.accounts s }) (sound_charged work P w s (suc n) m.1 ok)
      (paced_charged w s n m.0 m.1 ok on)
  paced_charge w s zero (Some e) may ok on = on
  paced_charge w s (suc n) (Some e) may ok on = on

  -- each step, if it advances quietly
  pub paced_next : (backlog : ℕ) (w : World W) (x : Step W) → AllSound work P w → IsQuietAdvance work w x → IsPacedIn work P 0 w → IsPacedIn work P 0 (next work backlog w x)
  paced_next backlog w (Submit s job) ok q on = paced_submit w s job (submit_refusal backlog (faces work w) s) ok on
  paced_next backlog w Run ok q on = paced_run w (runner work w) (runner_chosen work P w) ok on
  paced_next backlog w (Advance n) ok q on = elim (cases_Bool (leb (w.now + n) clock_end)) [
    | inl t ↦ let le : w.now + n ≤ clock_end = grind (arith, nat_tests) in rw t (paced_advance w n ok on (q le))
    | inr f ↦ rw f on
  ]
  paced_next backlog w (Close s) ok q on = paced_close w s (close_refusal (faces work w) s) on
  paced_next backlog w (Charge s n) ok q on = paced_charge w s n (charge_refusal w s n) (λ e. (charged_there work w s n e, charged_runs work w s n e)) ok on
