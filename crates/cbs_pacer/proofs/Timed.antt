-- The laws of a server's share and lateness in time.
use Rattle.std.proofs.Common.{◌≡◌, ◌≤◌, ◌<◌, ◌+◌, ◌-◌, ◌*◌, ◌/◌, ℕ, zero, suc, true, false, eqb, List, [], ◌∷◌, ◌++◌, length, Some, None, refl, ap, sym, ◌∙◌, arith, inl, inr, subst}
use Rattle.std.proofs.lemmas.Bool.{cases_Bool, cases_eq}
use Rattle.std.proofs.lemmas.Bool.Decides.{nat_tests}
use Rattle.std.proofs.lemmas.List.{append_assoc, length-map, get_or-map}
use Rattle.std.proofs.Math.Nat.{mul-le-mul_right}
use Rattle.cbs_job.specs.Work.{Meaning}
use Rattle.cbs_lists.specs.Lists.{changed_at}
use Rattle.cbs_lists.proofs.Lists.{changed_here}
use Rattle.cbs_steps.specs.Accounts.{no_account, taken, account_with_unit, account_with_charge, account_let_go}
use Rattle.cbs_steps.specs.History.{World, Setup, History, account, after, next, tick, runner, after_run, after_charging, let_go, charge_refusal}
use Rattle.cbs_steps.specs.Laws.{account_in, IsWithinShare}
use Rattle.cbs_steps.specs.Lateness.{later_charges, KeepsLateness}
use Rattle.cbs_steps.specs.Promises.{when}
use Rattle.cbs_steps.specs.Windows.{KeepsShare}
use Rattle.cbs_steps.specs.declared.step.Step.{Step}
use Rattle.cbs_steps.specs.declared.step.Step.TheVariants as step
use Rattle.cbs_steps.proofs.Histories.{holds_next, holds_ticks, runner_ready, charged_there}
use Rattle.cbs_steps.proofs.Running.{replenished_account}
use Rattle.cbs_clients.specs.Meters.{charge_steps}
use Rattle.cbs_pace.specs.declared.rounding.Rounding.{Rounding}
use Rattle.cbs_pace.specs.Ledgers.{ticks_taken, IsPaidFor}
use Rattle.cbs_pace.proofs.Units.{unit_paid}
use Rattle.cbs_pacer.specs.Timed.{Timed, Makes, Works, ledger_of, next_charge, steps_of, timed_account, AreTimed, KeepsShareOfTime, KeepsLatenessInTime}
use Rattle.cbs_pacer.proofs.Units.{ready_there}

module _ {W : Type 0} (work : Meaning W) where
  -- no step takes back what a server took
  taken_next : (backlog : ℕ) (w : World W) (x : Step W) (s n : ℕ) → n ≤ taken (account w.accounts s) → n ≤ taken (account (next work backlog w x).accounts s)
  taken_next backlog w x s n h =
      holds_next work (λ now a. n ≤ taken a) (λ now a ready k. omega (arith, k)) (λ now a k. k) (λ now a k. k) (λ now a k. k) (λ now j a k. k)
      (λ now m a some runs k. omega (arith, k)) backlog w x s h

  -- a unit is taken
  taken_run : (w : World W) (s : ℕ) → s < length w.accounts → taken (account (after_run w (Some s)).accounts s) ≡ taken (account w.accounts s) + 1
  taken_run w s lt =
      let xs = (let_go w).accounts in
      let there : s < length xs = omega (arith, length-map w.accounts (account_let_go {W = W})) in
      let e = replenished_account (w.now + 1) (changed_at account_with_unit xs s) s in
      let here = changed_here account_with_unit xs s no_account there in
      let same : account xs s ≡ account_let_go (account w.accounts s) = get_or-map account_let_go w.accounts s no_account no_account lt in
      rw (e, here, same) (omega arith)

  -- and so is a charge
  taken_charge : (w : World W) (s n : ℕ) → s < length w.accounts → taken (account w.accounts s) + n ≤ taken (account (after_charging w s n None).accounts s)
  taken_charge w s zero lt = omega arith
  taken_charge w s (suc n) lt =
      let v : World W = record w { accounts = changed_at (account_with_charge (suc n)) w.accounts s } in
      let here = changed_here (account_with_charge (suc n)) w.accounts s no_account lt in
      let start : taken (account w.accounts s) + suc n ≤ taken (account v.accounts s) = rw here (omega arith) in
      holds_ticks work (λ now a. taken (account w.accounts s) + suc n ≤ taken a) (λ now a ready k. omega (arith, k)) (λ now a k. k) (λ now a k. k) (λ now a k. k)
      (suc n) v s start

  -- nor do more steps
  taken_more : (setup : Setup) (xs ys : List (Step W)) (s n : ℕ) → n ≤ taken (account (after work setup ys).accounts s)
      → n ≤ taken (account (after work setup (xs ++ ys)).accounts s)
  taken_more setup [] ys s n h = h
  taken_more setup (x ∷ xs) ys s n h = taken_next setup.backlog (after work setup (xs ++ ys)) x s n (taken_more setup xs ys s n h)

  taken_charges : (setup : Setup) (ys : List (Step W)) (s n : ℕ) → charge_refusal (after work setup ys) s n ≡ None
      → taken (account (after work setup ys).accounts s) + n ≤ taken (account (after work setup (charge_steps s n ++ ys)).accounts s)
  taken_charges setup ys s zero e = omega arith
  taken_charges setup ys s (suc n) e =
      let w = after work setup ys in rw e (taken_charge w s (suc n) (charged_there work w s (suc n) e))

  -- a measured unit is taken, and its charge
  taken_works : (setup : Setup) (ys : List (Step W)) (s n : ℕ) → runner work (after work setup ys) ≡ Some s
      → charge_refusal (after work setup (step.Run ∷ ys)) s n ≡ None
      → taken (account (after work setup ys).accounts s) + 1 + n ≤ taken (account (after work setup (charge_steps s n ++ step.Run ∷ ys)).accounts s)
  taken_works setup ys s n runs granted =
      let w = after work setup ys in
      let lt = ready_there work w s (runner_ready work w s runs) in
      let one : taken (account (after work setup (step.Run ∷ ys)).accounts s) ≡ taken (account w.accounts s) + 1 = rw runs (taken_run w s lt) in
      let more = taken_charges setup (step.Run ∷ ys) s n granted in
      omega (arith, one, more)

  module _ (setup : Setup) (r : Rounding) (tick : ℕ) where
    -- what a server's measured units come to, it took
    grows : (K M : List (Timed W)) (s : ℕ) → AreTimed work setup r tick (K ++ M)
        → taken (timed_account work setup r tick s M) + ticks_taken (ledger_of r tick s (K ++ M))
        ≤ taken (timed_account work setup r tick s (K ++ M)) + ticks_taken (ledger_of r tick s M)
    grows [] M s h = omega arith
    grows (Makes x ∷ K) M s h =
        let N = K ++ M in
        let before = grows K M s h in
        let w = after work setup (steps_of r tick N) in
        let k = taken_next setup.backlog w x s (taken (account w.accounts s)) (omega arith) in
        omega (arith, before, k)
    grows (Works t took ∷ K) M s h =
        let N = K ++ M in
        let before = grows K M s h.0 in
        let ys = steps_of r tick N in
        let n = next_charge r tick N t took in
        elim (cases_eq t s) [
          | inl e ↦
              let same : eqb t s ≡ true = grind (arith, nat_tests) in
              let k = taken_works setup ys t n h.1 h.2 in
              let at : taken (account (after work setup ys).accounts s) + 1 + next_charge r tick N s took ≤ taken (account (after work setup (charge_steps t n ++ step.Run ∷ ys)).accounts s) =
              subst (λ (v : ℕ). taken (account (after work setup ys).accounts v) + 1 + next_charge r tick N v took ≤ taken (account (after work setup (charge_steps t n ++ step.Run ∷ ys)).accounts v)) e k in
              rw same (omega (arith, before, at))
          | inr ne ↦
              let other : eqb t s ≡ false = grind (arith, nat_tests) in
              let one = taken_next setup.backlog (after work setup ys) step.Run s (taken (account (after work setup ys).accounts s)) (omega arith) in
              let k = taken_more setup (charge_steps t n) (step.Run ∷ ys) s (taken (account (after work setup ys).accounts s)) one in
              rw other (omega (arith, before, k))
        ]

    -- and they were paid for
    paid : (K M : List (Timed W)) (s : ℕ) → 0 < tick → IsPaidFor tick (ledger_of r tick s M) (ledger_of r tick s (K ++ M))
    paid [] M s long = omega arith
    paid (Makes x ∷ K) M s long = paid K M s long
    paid (Works t took ∷ K) M s long =
        let b = ledger_of r tick s (K ++ M) in
        let h = paid K M s long in
        elim (cases_Bool (eqb t s)) [
          | inl y ↦ rw y (omega (arith, h, unit_paid r tick b.carried took long))
          | inr n ↦ rw n h
        ]

    -- the steps of more moves come after those before
    suffix : (K M : List (Timed W)) → (xs : List (Step W)) × (steps_of r tick (K ++ M) ≡ xs ++ steps_of r tick M)
    suffix [] M = ([], refl)
    suffix (Makes x ∷ K) M = let h = suffix K M in (x ∷ h.0, ap (λ (ys : List (Step W)). x ∷ ys) h.1)
    suffix (Works t took ∷ K) M =
        let h = suffix K M in
        let cs = charge_steps t (next_charge r tick (K ++ M) t took) in (
          cs ++ step.Run ∷ h.0,
          ap (λ (ys : List (Step W)). cs ++ step.Run ∷ ys) h.1 ∙ sym (append_assoc cs (step.Run ∷ h.0) (steps_of r tick M)),
        )

-- a share of ticks, and what pays for time, are a share of time
share_of_time : (tick q t x y taken0 taken1 c0 c1 o0 o1 d0 d1 : ℕ) → x + taken0 * tick ≤ y + taken1 * tick
    → (taken1 + c1 + o0) * t + d0 * q ≤ (taken0 + c0 + o1) * t + d1 * q
    → (x + (c1 + o0) * tick) * t + d0 * q * tick ≤ (y + (c0 + o1) * tick) * t + d1 * q * tick
share_of_time tick q t x y taken0 taken1 c0 c1 o0 o1 d0 d1 pays share =
    let a : (x + taken0 * tick) * t ≤ (y + taken1 * tick) * t = mul-le-mul_right t pays in
    let b : ((taken1 + c1 + o0) * t + d0 * q) * tick ≤ ((taken0 + c0 + o1) * t + d1 * q) * tick = mul-le-mul_right tick share in
    omega (arith, a, b)

-- what is taken pays for what was measured
pays_for : (tick m0 m1 k0 k1 t0 t1 taken0 taken1 : ℕ) → m1 + k0 + t0 * tick ≤ m0 + k1 + t1 * tick → taken0 + t1 ≤ taken1 + t0
    → m1 + k0 + taken0 * tick ≤ m0 + k1 + taken1 * tick
pays_for tick m0 m1 k0 k1 t0 t1 taken0 taken1 paid grew =
    let a : (taken0 + t1) * tick ≤ (taken1 + t0) * tick = mul-le-mul_right tick grew in omega (arith, a, paid)

module _ {W : Type 0} (work : Meaning W) (setup : Setup) (r : Rounding) (tick : ℕ) (long : 0 < tick) where
  -- no server's units take more than its share of time
  pub share_kept_in_time : ((steps : List (Step W)) → KeepsShare work (record { setup = setup; steps = steps })) → KeepsShareOfTime work setup r tick
  share_kept_in_time laws K M s lt timed =
      let N : History W = record { setup = setup; steps = steps_of r tick (K ++ M) } in
      let at = suffix work setup r tick K M in
      let ys = steps_of r tick M in
      let before = timed_account work setup r tick s M in
      let after = timed_account work setup r tick s (K ++ M) in
      let a = ledger_of r tick s M in
      let b = ledger_of r tick s (K ++ M) in
      let share : IsWithinShare before after =
      subst (λ (xs : List (Step W)). IsWithinShare before (account_in work (when N xs) s)) (sym at.1) (laws N.steps [] at.0 ys s at.1 lt) in
      let pays = pays_for tick a.measured b.measured a.carried b.carried (ticks_taken a) (ticks_taken b) (taken before) (taken after)
      (paid work setup r tick K M s long) (grows work setup r tick K M s timed) in
      share_of_time tick before.terms.reservation.budget before.terms.reservation.period (b.measured + a.carried) (a.measured + b.carried) (taken before) (taken after)
      before.state.budget after.state.budget before.state.overrun after.state.overrun before.state.deadline after.state.deadline pays share

-- less than one tick more is over than the ticks that are counted and those that the clock is behind
late_in_time : (tick first over now d late : ℕ) → 0 < tick → first ≤ now → now < d + late
    → over + first * tick < (d + late + (over / tick - (now - first))) * tick
late_in_time tick first over now d late long begun lt =
    let q = over / tick in
    let k : q + first + 1 ≤ d + late + (q - (now - first)) = omega arith in
    let m : (q + first + 1) * tick ≤ (d + late + (q - (now - first))) * tick = mul-le-mul_right tick k in
    let e : over < (q + 1) * tick = omega arith in
    omega (arith, m, e)

module _ {W : Type 0} (work : Meaning W) (setup : Setup) where
  pub lateness_kept_in_time : ((steps : List (Step W)) → KeepsLateness work (record { setup = setup; steps = steps })) → KeepsLatenessInTime work setup
  lateness_kept_in_time laws steps s p quiet there ready long begun =
      let w = after work setup steps in
      let d = (account w.accounts s).state.deadline in
      late_in_time p.tick p.first p.watch.over w.now d (later_charges d w.accounts) long begun (laws steps quiet s there ready)
