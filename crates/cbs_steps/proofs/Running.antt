-- Which server runs, and what was charged for its last unit, through each step.
use Rattle.std.proofs.Common.{◌≡◌, ◌≢◌, ℕ, zero, suc, ◌+◌, ◌≤◌, ◌<◌, true, false, leb, ltb, eqb, List, [], ◌∷◌, length, map, refl, subst, arith, Some, None, inl, inr}
use Rattle.std.proofs.Math.ListN.{get_or-map}
use Rattle.std.proofs.lemmas.Bool.{cases_Bool}
use Rattle.std.proofs.lemmas.Bool.Decides.{nat_tests}
use Rattle.std.proofs.lemmas.List.{length-map}
use Rattle.cbs_rules.specs.Rules.{Terms, clock_end}
use Rattle.cbs_lists.specs.Lists.{changed_at}
use Rattle.cbs_lists.proofs.Lists.{changed_here, changed_elsewhere}
use Rattle.cbs_steps.specs.Accounts.{Account, new_account, no_account, account_with_unit, account_with_charge, account_with_replenishment, account_let_go}
use Rattle.cbs_steps.specs.History.{World, account, let_go, after_run, after_advance, after_charging, charge_refusal}
use Rattle.cbs_steps.specs.declared.error.CoreError.TheVariants as error
use Rattle.cbs_steps.proofs.Ticks.{jumped, ticks_some}

-- at the start nobody runs
pub none_runs : (W : Type 0) (ts : List Terms) (s : ℕ) → (account {W = W} (map new_account ts) s).runs ≡ false
none_runs W [] s = refl
none_runs W (t ∷ ts) zero = refl
none_runs W (t ∷ ts) (suc s) = none_runs W ts s

module _ {W : Type 0} where
  -- a change of one account that keeps what runs keeps it of all
  pub runs_changed : (f : Account W → Account W) (xs : List (Account W)) (i t : ℕ) → ((a : Account W) → (f a).runs ≡ a.runs)
      → (account (changed_at f xs i) t).runs ≡ (account xs t).runs
  runs_changed f [] i t same = refl
  runs_changed f (x ∷ xs) zero zero same = same x
  runs_changed f (x ∷ xs) zero (suc t) same = refl
  runs_changed f (x ∷ xs) (suc i) zero same = refl
  runs_changed f (x ∷ xs) (suc i) (suc t) same = runs_changed f xs i t same

  -- so it is of what was charged for the last unit
  pub latest_changed : (f : Account W → Account W) (xs : List (Account W)) (i t : ℕ) → ((a : Account W) → (f a).latest ≡ a.latest)
      → (account (changed_at f xs i) t).latest ≡ (account xs t).latest
  latest_changed f [] i t same = refl
  latest_changed f (x ∷ xs) zero zero same = same x
  latest_changed f (x ∷ xs) zero (suc t) same = refl
  latest_changed f (x ∷ xs) (suc i) zero same = refl
  latest_changed f (x ∷ xs) (suc i) (suc t) same = latest_changed f xs i t same

  -- a replenishment of all leaves both
  pub replenished_account : (now : ℕ) (xs : List (Account W)) (t : ℕ)
      → account (map (account_with_replenishment now) xs) t ≡ account_with_replenishment now (account xs t)
  replenished_account now xs t = get_or-map (account_with_replenishment now) xs t no_account

  pub loose_account : (xs : List (Account W)) (t : ℕ) → account (map account_let_go xs) t ≡ account_let_go (account xs t)
  loose_account xs t = get_or-map account_let_go xs t no_account

  -- after a run its server runs, and no other
  pub runs_run : (w : World W) (s t : ℕ) → s < length w.accounts → (account (after_run w (Some s)).accounts t).runs ≡ eqb s t
  runs_run w s t lt =
      let xs = (let_go w).accounts in
      let there : s < length xs = omega (arith, length-map w.accounts (account_let_go {W = W})) in
      let e = replenished_account (w.now + 1) (changed_at account_with_unit xs s) t in
      elim (cases_Bool (eqb s t)) [
        | inl y ↦
            let same : s ≡ t = grind (arith, nat_tests) in
            let here = changed_here account_with_unit xs s no_account there in
            let goal : (account (after_run w (Some s)).accounts s).runs ≡ true = rw (replenished_account (w.now + 1) (changed_at account_with_unit xs s) s, here) refl in
            rw y (subst (λ v. (account (after_run w (Some s)).accounts v).runs ≡ true) same goal)
        | inr n ↦
            let other : t ≢ s = λ q. let y : eqb s t ≡ true = grind (arith, nat_tests) in cc in
            rw (n, e, changed_elsewhere account_with_unit xs s t no_account other, loose_account w.accounts t) refl
      ]

  -- for whose unit nothing was charged yet
  pub latest_run : (w : World W) (s : ℕ) → s < length w.accounts → (account (after_run w (Some s)).accounts s).latest ≡ 0
  latest_run w s lt =
      let xs = (let_go w).accounts in
      let there : s < length xs = omega (arith, length-map w.accounts (account_let_go {W = W})) in
      rw (replenished_account (w.now + 1) (changed_at account_with_unit xs s) s, changed_here account_with_unit xs s no_account there) refl

  -- an advance by some ticks is one jump, after which nobody runs
  pub advance_jumps : (w : World W) (n : ℕ) → 0 < n → after_advance w n ≡ jumped n (let_go w)
  advance_jumps w zero some = absurd (omega arith)
  advance_jumps w (suc n) some = ticks_some (suc n) (let_go w) some

  pub runs_jumped : (w : World W) (n t : ℕ) → (account (jumped n (let_go w)).accounts t).runs ≡ false
  runs_jumped w n t = rw (replenished_account (w.now + n) (let_go w).accounts t, loose_account w.accounts t) refl

  -- a charge of some ticks is one jump, too
  pub charge_jumps : (w : World W) (s n : ℕ) → 0 < n → after_charging w s n None ≡ jumped n (record w { accounts = changed_at (account_with_charge n) w.accounts s })
  charge_jumps w s zero some = absurd (omega arith)
  charge_jumps w s (suc n) some = ticks_some (suc n) (record w { accounts = changed_at (account_with_charge (suc n)) w.accounts s }) some

  -- one of none leaves the world
  pub charge_none : (w : World W) (s n : ℕ) → n ≡ 0 → after_charging w s n None ≡ w
  charge_none w s zero e = refl
  charge_none w s (suc n) e = absurd (omega arith)

  -- one that is refused, too
  pub charge_refused : (w : World W) (s n : ℕ) (e : _) → after_charging w s n (Some e) ≡ w
  charge_refused w s zero e = refl
  charge_refused w s (suc n) e = refl

  -- after a charge the same server runs
  pub runs_charged : (w : World W) (s n t : ℕ) → (account (jumped n (record w { accounts = changed_at (account_with_charge n) w.accounts s })).accounts t).runs ≡ (account w.accounts t).runs
  runs_charged w s n t = rw (replenished_account (w.now + n) (changed_at (account_with_charge n) w.accounts s) t) (runs_changed (account_with_charge n) w.accounts s t (λ a. refl))

  -- and was charged so much more
  pub latest_charged : (w : World W) (s n : ℕ) → s < length w.accounts
      → (account (jumped n (record w { accounts = changed_at (account_with_charge n) w.accounts s })).accounts s).latest ≡ (account w.accounts s).latest + n
  latest_charged w s n lt = rw (replenished_account (w.now + n) (changed_at (account_with_charge n) w.accounts s) s, changed_here (account_with_charge n) w.accounts s no_account lt) refl

  -- why a charge is refused
  module _ (w : World W) (s n : ℕ) where
    pub refused_stranger : length w.accounts ≤ s → charge_refusal w s n ≡ Some error.NoSuchServer
    refused_stranger ge = let t : leb (length w.accounts) s ≡ true = grind (arith, nat_tests) in rw t refl

    pub refused_idle : s < length w.accounts → (account w.accounts s).runs ≡ false → charge_refusal w s n ≡ Some error.NotRunning
    refused_idle lt idle = let f : leb (length w.accounts) s ≡ false = grind (arith, nat_tests) in rw (f, idle) refl

    pub refused_late : s < length w.accounts → (account w.accounts s).runs ≡ true → clock_end < w.now + n → charge_refusal w s n ≡ Some error.ClockEnd
    refused_late lt runs late =
        let f : leb (length w.accounts) s ≡ false = grind (arith, nat_tests) in
        let t : ltb clock_end (w.now + n) ≡ true = grind (arith, nat_tests) in
        rw (f, runs, t) refl

    pub not_refused : s < length w.accounts → (account w.accounts s).runs ≡ true → w.now + n ≤ clock_end → charge_refusal w s n ≡ None
    not_refused lt runs early =
        let f : leb (length w.accounts) s ≡ false = grind (arith, nat_tests) in
        let t : ltb clock_end (w.now + n) ≡ false = grind (arith, nat_tests) in
        rw (f, runs, t) refl
