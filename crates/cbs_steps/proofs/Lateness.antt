-- If each advance is quiet, servers are late by no more than what the others may be charged.
use Rattle.std.proofs.Common.{◌≡◌, ℕ, ◌+◌, ◌-◌, ◌*◌, ◌≤◌, ◌<◌, true, false, ltb, ◌||◌, List, [], ◌∷◌, ◌++◌, length, map, arith, refl, inl, inr, ap, ◌∙◌}
use Rattle.std.specs.Prelude.{if◌then◌else◌}
use Rattle.std.specs.List.{sum_by}
use Rattle.std.proofs.lemmas.Bool.{cases_lt, cases_Bool}
use Rattle.std.proofs.lemmas.Bool.Decides.{nat_tests}
use Rattle.std.proofs.lemmas.List.Sums.{get_or-le-sum_by, sum_by-cons}
use Rattle.std.proofs.lemmas.Nat.{mul-le}
use Rattle.cbs_job.specs.Work.{Meaning}
use Rattle.cbs_rate.specs.Plan.{share, all_periods}
use Rattle.cbs_rules.specs.Rules.{Terms, funds, until}
use Rattle.cbs_lists.proofs.Lists.{AllByRecursion-get}
use Rattle.cbs_lists.proofs.Sums.{sum-mono, sum_spared}
use Rattle.cbs_steps.specs.Faces.{is_active}
use Rattle.cbs_steps.specs.Accounts.{Account, face_of, no_account, new_account}
use Rattle.cbs_steps.specs.Charged.{others_charges}
use Rattle.cbs_steps.specs.History.{World, Setup, History, account, start, after, world_after}
use Rattle.cbs_steps.specs.Lateness.{later_charges, IsLateByLess, KeepsLateness}
use Rattle.cbs_steps.specs.OnTime.{demand, demand_of, full_demand, IsAhead}
use Rattle.cbs_steps.specs.Quiet.{AreQuiet, AdvanceQuietly, IsQuietStep, IsQuietAdvance}
use Rattle.cbs_steps.specs.declared.step.Step.{Step}
use Rattle.cbs_steps.specs.declared.step.Step.TheVariants.{Submit, Run, Advance, Close, Charge}
use Rattle.cbs_steps.proofs.DemandLines.{asked_from}
use Rattle.cbs_steps.proofs.DemandRules.{demand_ruled}
use Rattle.cbs_steps.proofs.Demands.{demand_busy}
use Rattle.cbs_steps.proofs.Faces.{runnable}
use Rattle.cbs_steps.proofs.LawfulServers.{ready_budget}
use Rattle.cbs_steps.proofs.OnTime.{IsAdmitted, given, sound_after, timely_start}
use Rattle.cbs_rate.proofs.Multiples.{all_periods_some}
use Rattle.cbs_steps.proofs.OnTimeSteps.{IsSound, AllSound, sound_at}
use Rattle.cbs_steps.proofs.Paced.{asks, blocks, blocks_none, IsPacedIn, shared_out, paced_next}
use Rattle.cbs_steps.proofs.Uncharged.{uncharged_after}

module _ {W : Type 0} (work : Meaning W) where
  -- a server that is active, or runs, may still take something
  funds_some : (P : ℕ) (a : Account W) → IsSound work P a → (a.runs || is_active (face_of work a)) ≡ true → 0 < funds a.terms.reservation a.state
  funds_some P a ok busy =
      let r = a.terms.reservation in
      let begun : 0 < a.state.deadline = elim (cases_Bool a.runs) [
        | inl t ↦ ok.lawful.ran t
        | inr f ↦ let active : is_active (face_of work a) ≡ true = rw f at busy in ok.lawful.begun active
      ] in
      let under = ok.lawful.state.below in
      elim (cases_Bool a.state.throttled) [
        | inl t ↦ let e : funds r a.state ≡ r.budget - a.state.overrun = rw t refl in omega arith
        | inr f ↦ let e : funds r a.state ≡ a.state.budget = rw f refl in let k = ok.lawful.state.unspent f begun in omega arith
      ]

  -- what it may still take fits, but for what those that are due later hold up
  funds_fit : (P : ℕ) (w : World W) → 0 < P → AllSound work P w → IsPacedIn work P 0 w → (s : ℕ) → s < length w.accounts
      → (let a = account w.accounts s in
      let x = until a.terms.reservation a.state in
      (a.runs || is_active (face_of work a)) ≡ true → w.now + funds a.terms.reservation a.state ≤ x + sum_by (blocks work x) w.accounts)
  funds_fit P w pos ok on s lt busy =
      let a = account w.accounts s in
      let r = a.terms.reservation in
      let x = until r a.state in
      let c = funds r a.state in
      let law = sound_at work P w ok s lt in
      let has = funds_some P a law busy in
      let all : asks work P w.now x a ≡ full_demand P r a.state x = demand_busy P r w.now x (a.runs || is_active (face_of work a)) a.state (grind (arith, nat_tests)) in
      let full : full_demand P r a.state x ≡ c * P + (x - x) * share P r = asked_from P (share P r) c x x (omega arith) in
      let part : asks work P w.now x a ≤ sum_by (asks work P w.now x) w.accounts = get_or-le-sum_by (asks work P w.now x) w.accounts s no_account lt in
      let one = mul-le 1 P c P has (omega arith) in
      let k = on.within x (omega arith) in
      let late = sum_by (blocks work x) w.accounts in
      let d : (w.now + c) * P ≤ (x + late) * P = omega arith in
      elim (cases_lt (x + late) (w.now + c)) [
        | inl more ↦ let e = mul-le (x + late + 1) P (w.now + c) P (omega arith) (omega arith) in absurd (omega arith)
        | inr fits ↦ fits
      ]

  -- a server holds up no more than the most that it was charged
  blocks-most : (P x : ℕ) (a : Account W) → IsSound work P a → blocks work x a ≤ a.charges.most
  blocks-most P x a ok = let l = ok.lawful.within in grind (arith, nat_tests)

  -- so it is due no earlier than the clock, but for the charges of the others
  pub due_soon : (P : ℕ) (w : World W) → 0 < P → AllSound work P w → IsPacedIn work P 0 w → (s : ℕ) → s < length w.accounts
      → (let a = account w.accounts s in
      (a.runs || is_active (face_of work a)) ≡ true → w.now < until a.terms.reservation a.state + others_charges w.accounts s)
  due_soon P w pos ok on s lt busy =
      let a = account w.accounts s in
      let x = until a.terms.reservation a.state in
      let f = funds_fit P w pos ok on s lt busy in
      let has = funds_some P a (sound_at work P w ok s lt) busy in
      let k = sum_spared (blocks work x) (λ (b : Account W). b.charges.most) w.accounts s no_account lt
      (λ i l. blocks-most P x (account w.accounts i) (sound_at work P w ok i l)) (blocks_none work P x a (omega arith)) in
      omega arith

  -- if d has come, a server that waits for a later tick has a later deadline
  later : (P now d : ℕ) (a : Account W) → IsSound work P a → d ≤ now → IsAhead now (face_of work a)
      → blocks work d a ≤ (if ltb d a.state.deadline then a.charges.most else 0)
  later P now d a ok come ahead =
      let r = a.terms.reservation in
      let most : (if a.runs then a.latest else a.charges.most) ≤ a.charges.most = let w = ok.lawful.within in grind (arith, nat_tests) in
      elim (cases_Bool a.state.throttled) [
        | inl t ↦
            let l = ahead t in
            let apart : ltb d a.state.deadline ≡ true = grind (arith, nat_tests) in
            let e : until r a.state ≡ a.state.deadline + r.period = rw t refl in
            let also : ltb d (until r a.state) ≡ true = grind (arith, nat_tests) in
            rw (also, apart) most
        | inr f ↦
            let e : until r a.state ≡ a.state.deadline = rw f refl in
            elim (cases_Bool (ltb d a.state.deadline)) [
              | inl apart ↦ let also : ltb d (until r a.state) ≡ true = ap (λ (v : ℕ). ltb d v) e ∙ apart in rw (also, apart) most
              | inr near ↦ let also : ltb d (until r a.state) ≡ false = ap (λ (v : ℕ). ltb d v) e ∙ near in rw (also, near) (omega arith)
            ]
      ]

  -- so a ready server is late by no more than those may have been charged
  pub late_by : (P : ℕ) (w : World W) → 0 < P → AllSound work P w → IsPacedIn work P 0 w → (s : ℕ) → IsLateByLess work w s
  late_by P w pos ok on s lt ready =
      let a = account w.accounts s in
      let x = a.state.deadline in
      elim (cases_lt w.now x) [
        | inl early ↦ omega arith
        | inr come ↦
            let law = sound_at work P w ok s lt in
            let free : a.state.throttled ≡ false = (runnable (face_of work a) ready).free in
            let active : is_active (face_of work a) ≡ true = grind (arith, nat_tests) in
            let busy : (a.runs || is_active (face_of work a)) ≡ true = grind (arith, nat_tests) in
            let has = ready_budget work a ready law.lawful in
            let u : until a.terms.reservation a.state ≡ x = rw free refl in
            let c : funds a.terms.reservation a.state ≡ a.state.budget = rw free refl in
            let f : w.now + a.state.budget ≤ x + sum_by (blocks work x) w.accounts = rw (u, c) at (funds_fit P w pos ok on s lt busy) in
            let m : sum_by (blocks work x) w.accounts ≤ later_charges x w.accounts =
            sum-mono (blocks work x) (λ b. if ltb x b.state.deadline then b.charges.most else 0) w.accounts no_account
            (λ i l. later P w.now x (account w.accounts i) (sound_at work P w ok i l) come
            (AllByRecursion-get (λ b. IsAhead w.now (face_of work b)) w.accounts i no_account (on.ahead refl) l)) in
            omega arith
      ]

  -- the start is on time
  paced_start : (setup : Setup) → IsAdmitted (given work setup) → IsPacedIn work (all_periods (given work setup)) 0 (start setup)
  paced_start setup ok =
      let P = all_periods (given work setup) in
      let on = timely_start work demand_of demand_ruled setup ok in
      record {
        within = λ x some.
            let b = on.within x (omega arith) in
            let e = asks_new P x setup.servers in
            shared_out P 0 x (sum_by (asks work P 0 x) (start setup).accounts) (sum_by (blocks work x) (start setup).accounts) (omega arith) some;
        ahead = λ z. on.ahead;
      }
    where
      asks_new : (P x : ℕ) (ts : List Terms) → sum_by (asks work P 0 x) (map new_account ts) ≡ sum_by (λ a. demand P 0 x (face_of work a)) (map new_account ts)
      asks_new P x [] = refl
      asks_new P x (t ∷ ts) = let r = asks_new P x ts in
          omega (arith, sum_by-cons (asks work P 0 x) (new_account t) (map new_account ts), sum_by-cons (λ a. demand P 0 x (face_of work a)) (new_account t) (map new_account ts))

  -- and so is each list of steps that advances quietly
  pub paced_after : (setup : Setup) (M : List (Step W)) → IsAdmitted (given work setup) → AdvanceQuietly work setup M
      → IsPacedIn work (all_periods (given work setup)) 0 (after work setup M)
  paced_after setup [] ok quiet = paced_start setup ok
  paced_after setup (x ∷ M) ok quiet = paced_next work (all_periods (given work setup)) setup.backlog (after work setup M) x
      (sound_after work setup M ok) quiet.1 (paced_after setup M ok quiet.0)

  -- so every history keeps the bound on lateness
  pub lateness_kept : (N : History W) → IsAdmitted (given work N.setup) → KeepsLateness work N
  lateness_kept N ok = λ quiet s. late_by (all_periods (given work N.setup)) (world_after work N) (all_periods_some (given work N.setup) ok.lawful)
      (sound_after work N.setup N.steps ok) (paced_after N.setup N.steps ok quiet) s

  -- and a server that is active, or runs, is due no earlier than the clock, but for the charges of the others
  pub due_busy : (setup : Setup) (M : List (Step W)) → IsAdmitted (given work setup) → AdvanceQuietly work setup M → (s : ℕ) → s < length (after work setup M).accounts
      → (let w = after work setup M in
      let a = account w.accounts s in
      (a.runs || is_active (face_of work a)) ≡ true → w.now < until a.terms.reservation a.state + others_charges w.accounts s)
  due_busy setup M ok quiet s lt busy = due_soon (all_periods (given work setup)) (after work setup M) (all_periods_some (given work setup) ok.lawful)
      (sound_after work setup M ok) (paced_after setup M ok quiet) s lt busy

  pub due_late : (setup : Setup) (M : List (Step W)) → IsAdmitted (given work setup) → AdvanceQuietly work setup M → (s : ℕ) → s < length (after work setup M).accounts
      → is_active (face_of work (account (after work setup M).accounts s)) ≡ true
      → (let w = after work setup M in
      let a = account w.accounts s in w.now < until a.terms.reservation a.state + others_charges w.accounts s)
  due_late setup M ok quiet s lt active = due_busy setup M ok quiet s lt (grind (arith, nat_tests))

  -- a step that takes nobody's time advances quietly
  pub quiet_advance : (w : World W) (x : Step W) → IsQuietStep work w x → IsQuietAdvance work w x
  quiet_advance w (Submit s job) q = tt
  quiet_advance w Run q = tt
  quiet_advance w (Advance n) q = q
  quiet_advance w (Close s) q = tt
  quiet_advance w (Charge s n) q = tt

  pub quiet_advances : (setup : Setup) (M : List (Step W)) → AreQuiet work setup M → AdvanceQuietly work setup M
  quiet_advances setup [] quiet = tt
  quiet_advances setup (x ∷ M) quiet = (quiet_advances setup M quiet.0, quiet_advance (after work setup M) x quiet.1)

  -- the first steps of a list that takes nobody's time take nobody's time
  pub quiet_front : (setup : Setup) (K M : List (Step W)) → AreQuiet work setup (K ++ M) → AreQuiet work setup M
  quiet_front setup [] M quiet = quiet
  quiet_front setup (x ∷ K) M quiet = quiet_front setup K M quiet.0

  -- after it nobody was charged
  pub others_uncharged : (setup : Setup) (M : List (Step W)) (s : ℕ) → AreQuiet work setup M → others_charges (after work setup M).accounts s ≡ 0
  others_uncharged setup M s quiet =
      let accounts = (after work setup M).accounts in
      let m = sum-mono (λ (a : Account W). a.charges.most) (λ a. 0) accounts no_account (λ i lt. let u = (uncharged_after work setup M i quiet).most in omega arith) in
      let z = sum_zero accounts in
      omega arith
    where
      sum_zero : (xs : List (Account W)) → sum_by (λ a. 0) xs ≡ 0
      sum_zero [] = refl
      sum_zero (x ∷ xs) = let r = sum_zero xs in omega (arith, sum_by-cons (λ (a : Account W). 0) x xs)
