-- The best of what was looked at, and one more.
use Rattle.std.proofs.Common.{◌≡◌, ℕ, ◌+◌, ◌*◌, ◌≤◌, ◌<◌, List, [], ◌∷◌, ◌++◌, length, take, get_or, flat_map, ap, ◌∙◌, arith, inl, Option, Some, None}
use Rattle.std.specs.List.{All}
use Rattle.std.proofs.Math.Nat.{lt_of_mul-lt-mul_left}
use Rattle.std.proofs.lemmas.List.Elements.{All-append, All-cons, All-nil, All-weaker}
use Rattle.std.proofs.lemmas.List.{take_more, append-nil}
use Rattle.std.proofs.lemmas.List.Concat.{flat_map-cons}
use Rattle.std.proofs.lemmas.Grind.{flat_map-append}
use Rattle.std.proofs.lemmas.Nat.{mul-le}
use Rattle.cbs_rate.specs.Limits.{most_servers}
use Rattle.cbs_rate.specs.Rate.{Rate, IsRate}
use Rattle.cbs_guarantee.specs.declared.source.NotPromised.TheVariants as why
use Rattle.cbs_guarantee.specs.declared.source.Source.{Source}
use Rattle.cbsrun_proposals.specs.Proposals.{rate, IsLess, IsNeverEnough, IsLongest, IsNoLess, IsBestOf, parts_of, budgets_of}
use Rattle.cbsrun_proposals.specs.declared.wanted.Wanted.{Wanted}

-- less than what is no more than a share is less than that share
less_on : (a b c : Rate) → 0 < b.period → 0 < c.period → IsLess a b → b.budget * c.period ≤ c.budget * b.period → IsLess a c
less_on a b c some more less le =
    let m : b.period * (a.budget * c.period) < b.period * (c.budget * a.period) =
    let one : c.period * (a.budget * b.period) < c.period * (b.budget * a.period) = grown c.period (a.budget * b.period) (b.budget * a.period) more less in
    let two : a.period * (b.budget * c.period) ≤ a.period * (c.budget * b.period) = mul-le a.period (b.budget * c.period) a.period (c.budget * b.period) (omega arith) le in
    let x : c.period * (a.budget * b.period) ≡ b.period * (a.budget * c.period) = omega arith in
    let y : c.period * (b.budget * a.period) ≡ a.period * (b.budget * c.period) = omega arith in
    let z : a.period * (c.budget * b.period) ≡ b.period * (c.budget * a.period) = omega arith in
    omega arith in
    lt_of_mul-lt-mul_left b.period m
  where
    grown : (k x y : ℕ) → 0 < k → x < y → k * x < k * y
    grown k x y some lt = let m = mul-le k (x + 1) k y (omega arith) (omega arith) in omega arith

module _ (sources : List Source) (w : Wanted) where
  all_one : (P : ℕ → Type 0) (n : ℕ) → P n → All P (n ∷ [])
  all_one P n h = All-cons P n [] h (All-nil P)

  some_period : (r : Rate) → IsRate r.budget r.period → 0 < r.period
  some_period r is = let some = is.some in let within = is.within in omega arith

  -- a budget that is never enough is no better than any
  pub never_no_less : (server : Rate) (n : ℕ) → IsNeverEnough sources w n → IsNoLess sources w server n
  never_no_less server n never = λ period lawful less. never period lawful

  -- nor is one with a longer period than the longest
  pub longest_no_less : (budget : ℕ) (server : Rate) → IsLongest sources w budget server → IsNoLess sources w server budget
  longest_no_less budget server is = λ period lawful less.
      let same = is.same in
      let more : budget * server.period < budget * period = rw same at less in
      is.longest period (lt_of_mul-lt-mul_left budget more) lawful

  -- what is no better than a server is no better than one with less share
  no_less_on : (better server : Rate) (n : ℕ) → 0 < better.period → 0 < server.period → better.budget * server.period ≤ server.budget * better.period
      → IsNoLess sources w server n → IsNoLess sources w better n
  no_less_on better server n some more le h = λ period lawful less. h period lawful (less_on (rate n period) better server some more less le)

  -- the best with one more budget that is never enough
  pub best_never : (looked : List ℕ) (best : Option Rate) (budget : ℕ) → IsNeverEnough sources w budget → IsBestOf sources w looked best
      → IsBestOf sources w (looked ++ budget ∷ []) best
  best_never looked None budget never h = All-append (IsNeverEnough sources w) looked (budget ∷ []) h (all_one (IsNeverEnough sources w) budget never)
  best_never looked (Some server) budget never (lawful, enough, all) =
      (lawful, enough, All-append (IsNoLess sources w server) looked (budget ∷ []) all (all_one (IsNoLess sources w server) budget (never_no_less server budget never)))

  -- and with one more that is enough: the first that was found
  pub best_first : (looked : List ℕ) (budget : ℕ) (found : Rate) → IsLongest sources w budget found → IsBestOf sources w looked None
      → IsBestOf sources w (looked ++ budget ∷ []) (Some found)
  best_first looked budget found is h =
      let all = All-weaker (IsNeverEnough sources w) (IsNoLess sources w found) (never_no_less found) looked h in
      let last = all_one (IsNoLess sources w found) budget (longest_no_less budget found is) in
      (is.lawful, is.enough, All-append (IsNoLess sources w found) looked (budget ∷ []) all last)

  -- one with less share than the best so far
  pub best_taken : (looked : List ℕ) (best : Rate) (budget : ℕ) (found : Rate) → IsLongest sources w budget found → IsLess found best
      → IsBestOf sources w looked (Some best) → IsBestOf sources w (looked ++ budget ∷ []) (Some found)
  best_taken looked best budget found is less (lawful, enough, all) =
      let on : (n : ℕ) → IsNoLess sources w best n → IsNoLess sources w found n =
      λ n h. no_less_on found best n (some_period found is.lawful) (some_period best lawful) (omega arith) h in
      let every = All-weaker (IsNoLess sources w best) (IsNoLess sources w found) on looked all in
      let last = all_one (IsNoLess sources w found) budget (longest_no_less budget found is) in
      (is.lawful, is.enough, All-append (IsNoLess sources w found) looked (budget ∷ []) every last)

  -- one with no less share
  pub best_kept : (looked : List ℕ) (best : Rate) (budget : ℕ) (found : Rate) → IsLongest sources w budget found
      → best.budget * found.period ≤ found.budget * best.period → IsBestOf sources w looked (Some best) → IsBestOf sources w (looked ++ budget ∷ []) (Some best)
  best_kept looked best budget found is le (lawful, enough, all) =
      let no_less = no_less_on best found budget (some_period best lawful) (some_period found is.lawful) le (longest_no_less budget found is) in
      let last = all_one (IsNoLess sources w best) budget no_less in
      (lawful, enough, All-append (IsNoLess sources w best) looked (budget ∷ []) all last)

  -- with the budgets of one more source
  pub best_next : (xs : List Source) (i : ℕ) (d : Source) (best : Option Rate) → i < length xs
      → IsBestOf sources w (budgets_of (take i xs) ++ parts_of (get_or xs i d)) best → IsBestOf sources w (budgets_of (take (i + 1) xs)) best
  best_next xs i d best lt h =
      let x = get_or xs i d in
      let one : flat_map parts_of (x ∷ []) ≡ parts_of x = flat_map-cons parts_of x [] ∙ append-nil (parts_of x) in
      let next : budgets_of (take (i + 1) xs) ≡ budgets_of (take i xs) ++ parts_of x =
      ap budgets_of (take_more xs i d lt) ∙ flat_map-append parts_of (take i xs) (x ∷ []) ∙ ap (λ ys. budgets_of (take i xs) ++ ys) one in
      rw next h

  -- of more sources than a plan takes servers nothing is promised
  pub never_of_many : most_servers < length sources → IsBestOf sources w (budgets_of sources) None
  never_of_many many = λ k d lt period lawful. inl (why.BeyondLimits, λ is. let few = is.few in absurd (omega arith))
