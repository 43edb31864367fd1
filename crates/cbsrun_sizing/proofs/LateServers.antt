-- Servers of a load are late by no more than the greatest delay by the others.
use Rattle.std.proofs.Common.{◌≡◌, ℕ, zero, suc, ◌+◌, ◌≤◌, ◌<◌, ltb, List, [], ◌∷◌, length, map, get_or, arith, refl, ap}
use Rattle.std.specs.Prelude.{max, if◌then◌else◌}
use Rattle.std.specs.List.{fold, sum, sum_by, range_with_len}
use Rattle.std.proofs.lemmas.Bool.Decides.{nat_tests}
use Rattle.std.proofs.lemmas.List.{length-map}
use Rattle.std.proofs.lemmas.List.Sums.{sum_by-cons}
use Rattle.cbsrun_loads.specs.Loads.{LoadFile}
use Rattle.cbs_rate.specs.Plan.{IsPlan}
use Rattle.cbs_rate.specs.Rate.{Rate}
use Rattle.cbs_rules.specs.declared.mode.Mode.{Mode}
use Rattle.cbsrun_simulate.specs.Loading.{loading}
use Rattle.cbsrun_simulate.specs.declared.load_job.LoadJob.{LoadJob}
use Rattle.cbs_steps.specs.Accounts.{Account, new_account, no_account}
use Rattle.cbs_steps.specs.History.{account, world_after}
use Rattle.cbs_steps.specs.Setups.{terms_of, history_of}
use Rattle.cbs_steps.proofs.OnTime.{reservation, rates_after}
use Rattle.cbs_steps.proofs.Punctual.{plan_punctual}
use Rattle.cbsrun_sizing.specs.Lateness.{greatest_delay, BoundsLateness}
use Rattle.cbsrun_sizing.specs.ServerLoads.{most_charged, delay_of}

-- the greatest number is no less than the first
greatest_from : (f : ℕ → ℕ) (a : ℕ) (xs : List ℕ) → a ≤ fold (λ most s. max most (f s)) a xs
greatest_from f a [] = omega arith
greatest_from f a (x ∷ xs) = let rest = greatest_from f (max a (f x)) xs in omega arith

-- it is no less than any other number
greatest_at : (f : ℕ → ℕ) (a b n i : ℕ) → i < n → f (b + i) ≤ fold (λ most s. max most (f s)) a (range_with_len b n)
greatest_at f a b zero i lt = absurd (omega arith)
greatest_at f a b (suc n) zero lt =
    let e : b + 0 ≡ b = omega arith in
    let rest = greatest_from f (max a (f b)) (range_with_len (b + 1) n) in
    rw e (omega arith)
greatest_at f a b (suc n) (suc i) lt =
    let e : b + suc i ≡ b + 1 + i = omega arith in
    rw e (greatest_at f (max a (f b)) (b + 1) n i (omega arith))

-- one more delay
pub greatest_more : (f : ℕ → ℕ) (n : ℕ)
    → fold (λ most s. max most (f s)) 0 (range_with_len 0 (n + 1)) ≡ max (fold (λ most s. max most (f s)) 0 (range_with_len 0 n)) (f n)
greatest_more f n = later 0 0 n n (omega arith)
  where
    later : (a b m j : ℕ) → b + m ≡ j
        → fold (λ most s. max most (f s)) a (range_with_len b (m + 1)) ≡ max (fold (λ most s. max most (f s)) a (range_with_len b m)) (f j)
    later a b zero j e = let is : b ≡ j = omega arith in rw is refl
    later a b (suc m) j e = let n : suc m + 1 ≡ suc (m + 1) = omega arith in rw n (later (max a (f b)) (b + 1) m j (omega arith))

module _ {X : Type 0} (f : X → ℕ) (g : ℕ → ℕ) (d : X) where
  -- if each number is no greater than the one beside it, the sum is no greater
  no_more : (xs : List X) (b : ℕ) → ((i : ℕ) → i < length xs → f (get_or xs i d) ≤ g (b + i)) → sum_by f xs ≤ sum (map g (range_with_len b (length xs)))
  no_more [] b each = omega arith
  no_more (x ∷ xs) b each =
      let e : b + 0 ≡ b = omega arith in
      let here : f x ≤ g b = rw e at (each 0 (omega arith)) in
      let rest = no_more xs (b + 1) (λ i lt. let s : b + suc i ≡ b + 1 + i = omega arith in rw s at (each (suc i) (omega arith))) in
      omega (arith, sum_by-cons f x xs, sum_by-cons (λ (n : ℕ). n) (g b) (map g (range_with_len (b + 1) (length xs))))

  -- the sum of the others is no greater than the sum of those beside them
  pub spared : (xs : List X) (b s : ℕ) → s < length xs → ((i : ℕ) → i < length xs → f (get_or xs i d) ≤ g (b + i))
      → sum_by f xs + g (b + s) ≤ sum (map g (range_with_len b (length xs))) + f (get_or xs s d)
  spared [] b s lt each = absurd (omega arith)
  spared (x ∷ xs) b zero lt each =
      let e : b + 0 ≡ b = omega arith in
      let rest = no_more xs (b + 1) (λ i lt. let s : b + suc i ≡ b + 1 + i = omega arith in rw s at (each (suc i) (omega arith))) in
      rw e (omega (arith, sum_by-cons f x xs, sum_by-cons (λ (n : ℕ). n) (g b) (map g (range_with_len (b + 1) (length xs)))))
  spared (x ∷ xs) b (suc s) lt each =
      let e : b + 0 ≡ b = omega arith in
      let here : f x ≤ g b = rw e at (each 0 (omega arith)) in
      let i : b + suc s ≡ b + 1 + s = omega arith in
      let rest = spared xs (b + 1) s (omega arith) (λ i lt. let s : b + suc i ≡ b + 1 + i = omega arith in rw s at (each (suc i) (omega arith))) in
      rw i (omega (arith, sum_by-cons f x xs, sum_by-cons (λ (n : ℕ). n) (g b) (map g (range_with_len (b + 1) (length xs)))))

-- there are as many servers as reservations
pub as_many : (modes : List Mode) (rates : List Rate) → length modes ≡ length rates → length (terms_of modes rates) ≡ length rates
as_many [] [] e = refl
as_many [] (r ∷ rates) e = e
as_many (m ∷ modes) [] e = absurd (omega arith)
as_many (m ∷ modes) (r ∷ rates) e = let rest = as_many modes rates (omega arith) in omega arith

-- no server is later than the greatest delay
pub bounded : (f : LoadFile) → IsPlan f.plan → length f.modes ≡ length f.plan.rates → BoundsLateness f (greatest_delay f)
bounded f ok same steps quiet within s lt ready =
    let N = history_of f.modes f.plan.rates f.backlog steps in
    let w = world_after loading N in
    let d = (account w.accounts s).state.deadline in
    let charge : Account LoadJob → ℕ = λ a. if ltb d a.state.deadline then a.charges.most else 0 in
    let late = (plan_punctual loading f.plan f.modes f.backlog ok same steps).late_by quiet s lt ready in
    let count : length w.accounts ≡ length f.plan.rates =
    omega (
      arith,
      ap length (rates_after loading N.setup steps),
      length-map w.accounts (reservation loading),
      length-map (map new_account N.setup.servers) (reservation loading),
      length-map N.setup.servers (new_account {W = LoadJob}),
      as_many f.modes f.plan.rates same,
    ) in
    let none : charge (account w.accounts s) ≡ 0 = let t : ltb d d ≡ _ = refl in grind (arith, nat_tests) in
    let each : (i : ℕ) → i < length w.accounts → charge (account w.accounts i) ≤ most_charged f.sources i =
    λ i l. let h = within i l in grind (arith, nat_tests) in
    let sum_is = spared charge (most_charged f.sources) no_account w.accounts 0 s lt (λ i l. let e : 0 + i ≡ i = omega arith in rw e (each i l)) in
    let most = greatest_at (delay_of f) 0 0 (length f.plan.rates) s (omega arith) in
    let total = rw count at sum_is in
    omega arith
