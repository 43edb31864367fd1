-- The choice: by a scan, and in words of its own.
use Rattle.std.proofs.Common.{◌≡◌, ℕ, zero, suc, ◌+◌, ◌≤◌, ◌<◌, Bool, true, false, List, length, refl, sym, arith, ltb, ◌||◌, ◌&&◌, not, inl, inr}
use Rattle.std.proofs.Common.{Option, Some, None, below_more, subst, add-one, if◌then◌else◌}
use Rattle.std.proofs.Math.Bool.{and-false}
use Rattle.std.proofs.lemmas.Bool.{cases_lt, cases_Bool}
use Rattle.std.proofs.lemmas.Bool.Decides.{nat_tests}
use Rattle.cbs_steps.specs.Searches.{first_below, all_below}
use Rattle.cbs_steps.specs.Choice.{Rank, rank_at, is_before, is_first, chosen_among, IsEarliest, IsChoice}

-- what holds of each number below a bound, all_below says
all_below-is : (p : ℕ → Bool) (n : ℕ) → ((r : ℕ) → r < n → p r ≡ true) → all_below p n ≡ true
all_below-is p zero h = refl
all_below-is p (suc n) h = rw (all_below-is p n (λ r lt. h r (omega arith)), h n (omega arith))

-- if no number below a bound passes, there is no first
first_below-none : (p : ℕ → Bool) (n : ℕ) → ((r : ℕ) → r < n → p r ≡ false) → first_below p n ≡ None
first_below-none p zero h = refl
first_below-none p (suc n) h = rw (first_below-none p n (λ r lt. h r (omega arith)), h n (omega arith))

-- a number that passes, with none before it that does, is the first
first_below-is : (p : ℕ → Bool) (n s : ℕ) → s < n → p s ≡ true → ((r : ℕ) → r < s → p r ≡ false) → first_below p n ≡ Some s
first_below-is p zero s lt h before = absurd (omega arith)
first_below-is p (suc n) s lt h before =
    elim (cases_lt s n) [
      | inl below ↦ rw (first_below-is p n s below h before)
      | inr ge ↦
          let e : n ≡ s = omega arith in
          rw (first_below-none p n (λ r below. before r (omega arith)), e, h)
    ]

-- if one number below a bound fails, not all below it pass
all_below-not : (p : ℕ → Bool) (n s : ℕ) → s < n → p s ≡ false → all_below p n ≡ false
all_below-not p zero s lt h = absurd (omega arith)
all_below-not p (suc n) s lt h =
    elim (cases_lt s n) [
      | inl below ↦ rw (all_below-not p n s below h)
      | inr ge ↦ let e : n ≡ s = omega arith in rw (e, h) (and-false (all_below p s))
    ]

-- the earliest of all ranks is before each that is ready
first_by : (ranks : List Rank) (s : ℕ) → IsEarliest ranks (length ranks) s → is_first ranks s ≡ true
first_by ranks s best =
    let each : (r : ℕ) → r < length ranks → (not (rank_at ranks r).ready || is_before ranks s r) ≡ true =
    λ r lt. elim (cases_Bool (rank_at ranks r).ready) [ inl t ↦ rw (t, best.first r lt t) | inr f ↦ rw f ] in
    rw (best.ready, all_below-is (λ r. not (rank_at ranks r).ready || is_before ranks s r) (length ranks) each)

-- no rank that stands before the earliest of all is first
earlier_not : (ranks : List Rank) (s : ℕ) → IsEarliest ranks (length ranks) s → (r : ℕ) → r < s → is_first ranks r ≡ false
earlier_not ranks s best r lt =
    elim (cases_Bool (rank_at ranks r).ready) [
      | inl t ↦
          let before = best.first r (let w = best.within in omega arith) t in
          let not_before : is_before ranks r s ≡ false = grind (arith, nat_tests) in
          let fails : (not (rank_at ranks s).ready || is_before ranks r s) ≡ false = rw (best.ready, not_before) in
          rw (t, all_below-not (λ q. not (rank_at ranks q).ready || is_before ranks r q) (length ranks) s best.within fails)
      | inr f ↦ rw f
    ]

-- what is the choice in words of its own is the chosen server
pub chosen_best : (ranks : List Rank) (best : Option ℕ) → IsChoice ranks (length ranks) best → best ≡ chosen_among ranks
chosen_best ranks None none = sym (first_below-none (is_first ranks) (length ranks) (λ r lt. rw (none r lt)))
chosen_best ranks (Some s) best = sym (first_below-is (is_first ranks) (length ranks) s best.within (first_by ranks s best) (earlier_not ranks s best))

-- the better of the best so far and server i
abbrev better_of : List Rank → Option ℕ → ℕ → Option ℕ
better_of ranks None i = if (rank_at ranks i).ready then Some i else None
better_of ranks (Some b) i = if (rank_at ranks i).ready && ltb (rank_at ranks i).deadline (rank_at ranks b).deadline then Some i else Some b

-- each server is before itself
before_itself : (ranks : List Rank) (i : ℕ) → is_before ranks i i ≡ true
before_itself ranks i = grind (arith, nat_tests)

-- a rank of an earlier deadline is before all that the other is before
before_along : (ranks : List Rank) (i b r : ℕ) → (rank_at ranks i).deadline < (rank_at ranks b).deadline → is_before ranks b r ≡ true
    → is_before ranks i r ≡ true
before_along ranks i b r lt before = grind (arith, nat_tests)

-- a server of a lower number and no later deadline is before the other
before_later : (ranks : List Rank) (i b : ℕ) → b < i → (rank_at ranks b).deadline ≤ (rank_at ranks i).deadline → is_before ranks b i ≡ true
before_later ranks i b lt le = grind (arith, nat_tests)

module _ (ranks : List Rank) (i : ℕ) where
  -- a ready rank that is before all ready ones so far is the earliest so far
  best_new : (rank_at ranks i).ready ≡ true → ((r : ℕ) → r < i → (rank_at ranks r).ready ≡ true → is_before ranks i r ≡ true)
      → IsEarliest ranks (i + 1) i
  best_new t before = record {
    within = omega arith;
    ready = t;
    first = below_more (λ r. (rank_at ranks r).ready ≡ true → is_before ranks i r ≡ true) i before (λ _. before_itself ranks i);
  }

  -- the earliest so far stays if the next is not ready, or not of an earlier deadline
  best_old : (b : ℕ) → IsEarliest ranks i b → ((rank_at ranks i).ready ≡ true → (rank_at ranks b).deadline ≤ (rank_at ranks i).deadline)
      → IsEarliest ranks (i + 1) b
  best_old b best le = record {
    within = let w = best.within in omega arith;
    ready = best.ready;
    first = below_more (λ r. (rank_at ranks r).ready ≡ true → is_before ranks b r ≡ true) i best.first (λ on. before_later ranks i b best.within (le on));
  }

  -- the better of the choice among the first i servers and server i is the choice among one more
  better_best : (best : Option ℕ) → IsChoice ranks i best → IsChoice ranks (i + 1) (better_of ranks best i)
  better_best None h =
      elim (cases_Bool (rank_at ranks i).ready) [
        | inl t ↦ rw t (best_new t (λ r lt on. let off = h r lt in cc))
        | inr f ↦ rw f (below_more (λ r. (rank_at ranks r).ready ≡ false) i h f)
      ]
  better_best (Some b) h =
      elim (cases_Bool ((rank_at ranks i).ready && ltb (rank_at ranks i).deadline (rank_at ranks b).deadline)) [
        | inl t ↦
            let earlier : (rank_at ranks i).deadline < (rank_at ranks b).deadline = grind (arith, nat_tests) in
            rw t (best_new (grind (arith, nat_tests)) (λ r lt on. before_along ranks i b r earlier (h.first r lt on)))
        | inr f ↦ rw f (best_old b h (λ on. grind (arith, nat_tests)))
      ]

-- there is a choice among the first n servers: the scan finds it
found_choice : (ranks : List Rank) (n : ℕ) → (best : Option ℕ) × IsChoice ranks n best
found_choice ranks zero = (None, λ r lt. absurd (omega arith))
found_choice ranks (suc n) =
    let h = found_choice ranks n in
    (better_of ranks h.0 n, rw (← add-one) (better_best ranks n h.0 h.1))

-- the chosen server is the choice in words of its own
pub choice_is : (ranks : List Rank) → IsChoice ranks (length ranks) (chosen_among ranks)
choice_is ranks =
    let h = found_choice ranks (length ranks) in
    subst (λ o. IsChoice ranks (length ranks) o) (chosen_best ranks h.0 h.1) h.1
