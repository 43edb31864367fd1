-- Percentiles of numbers in ascending order.
use Rattle.std.proofs.Common.{◌≡◌, ℕ, zero, suc, ◌-◌, ◌*◌, ◌≤◌, ◌<◌, leb, ltb, List, [], ◌∷◌, length, arith}
use Rattle.std.proofs.Common.{refl, sym, ◌∙◌, if◌then◌else◌, sum_by, ap, Option, Some, None}
use Rattle.std.specs.Prelude.{IsPermutation, MatchOption, slice_index_or}
use Rattle.std.specs.Int.{div_ceil}
use Rattle.std.specs.List.Sorted.{IsNonDecreasing}
use Rattle.std.proofs.lemmas.Bool.Decides.{nat_tests}
use Rattle.std.proofs.lemmas.Grind.{div_ceil_times}
use Rattle.std.proofs.lemmas.List.Sorted.{length_permutation, All-permutation, Contains-permutation, IsPermutation-sym, sum_by-IsPermutation}
use Rattle.std.proofs.lemmas.List.Sums.{sum_by-cons}
use Rattle.std.proofs.lemmas.Nat.{mul-le}
use Rattle.std.proofs.lemmas.List.Elements.{Contains-get_or}
use Rattle.cbsrun_figures.specs.declared.figures.Ranks.{Ranks}
use Rattle.cbsrun_figures.specs.Percentiles.{at_most, below, IsPercentile, AreRanks}

-- the numbers after the first rise, too
rising_tail : (n : ℕ) (ns : List ℕ) → IsNonDecreasing (n ∷ ns) → IsNonDecreasing ns
rising_tail n ns h = λ i j d le lt. h (suc i) (suc j) d (omega arith) (omega arith)

-- none of them is less than the first
rising_head : (n : ℕ) (ns : List ℕ) → IsNonDecreasing (n ∷ ns) → (i d : ℕ) → i < length ns → n ≤ slice_index_or ns i d
rising_head n ns h i d lt = h zero (suc i) d (omega arith) (omega arith)

-- none of the numbers is less than one that is not greater than any
none_below : (n : ℕ) (ns : List ℕ) → ((i d : ℕ) → i < length ns → n ≤ slice_index_or ns i d) → below n ns ≡ 0
none_below n [] all = refl
none_below n (m ∷ ns) all =
    let first = all zero 0 (omega arith) in
    let rest = none_below n ns (λ i d lt. all (suc i) d (omega arith)) in
    grind (arith, nat_tests)

-- at least as many numbers as stand up to a place are at most the number there
enough : (ns : List ℕ) (i d : ℕ) → IsNonDecreasing ns → i < length ns → suc i ≤ at_most (slice_index_or ns i d) ns
enough [] i d rising lt = absurd (omega arith)
enough (n ∷ ns) zero d rising lt = grind (arith, nat_tests)
enough (n ∷ ns) (suc i) d rising lt =
    let h = enough ns i d (rising_tail n ns rising) (omega arith) in
    let le = rising_head n ns rising i d (omega arith) in
    grind (arith, nat_tests)

-- no more numbers are less than it than stand before it
few : (ns : List ℕ) (i d : ℕ) → IsNonDecreasing ns → i < length ns → below (slice_index_or ns i d) ns ≤ i
few [] i d rising lt = absurd (omega arith)
few (n ∷ ns) zero d rising lt = let h = none_below n ns (rising_head n ns rising) in grind (arith, nat_tests)
few (n ∷ ns) (suc i) d rising lt = let h = few ns i d (rising_tail n ns rising) (omega arith) in grind (arith, nat_tests)

-- a list of no length is empty
length_nil : (ns : List ℕ) → length ns ≡ 0 → ns ≡ []
length_nil [] e = refl
length_nil (n ∷ ns) e = absurd (omega arith)

-- the number at a rank is a percentile
pub percentile_at : (percent rank : ℕ) (ns : List ℕ) → 0 < percent → percent ≤ 100 → 0 < length ns → IsNonDecreasing ns
    → rank ≡ div_ceil (percent * length ns) 100 → IsPercentile percent ns (slice_index_or ns (rank - 1) 0)
percentile_at percent rank ns some most numbers rising is =
    let low = mul-le 1 1 percent (length ns) some numbers in
    let high = mul-le percent (length ns) 100 (length ns) most (omega arith) in
    let up = div_ceil_times (percent * length ns) 100 (omega arith) in
    let lower : 100 * (rank - 1) < percent * length ns = let a = up.1 in omega arith in
    let upper : percent * length ns ≤ 100 * rank = let a = up.0 in omega arith in
    let within : rank - 1 < length ns = omega arith in
    let e = enough ns (rank - 1) 0 rising within in
    let f = few ns (rank - 1) 0 rising within in
    record {
      among = Contains-get_or ns (rank - 1) 0 within;
      reached = omega arith;
      least = omega arith;
    }

-- as many of the numbers are at most n, or less than n, in any order
at_most_sum : (n : ℕ) (ns : List ℕ) → at_most n ns ≡ sum_by (λ m. if leb m n then 1 else 0) ns
at_most_sum n [] = refl
at_most_sum n (m ∷ ns) = let h = at_most_sum n ns in let c = sum_by-cons (λ (k : ℕ). if leb k n then 1 else 0) m ns in omega arith

below_sum : (n : ℕ) (ns : List ℕ) → below n ns ≡ sum_by (λ m. if ltb m n then 1 else 0) ns
below_sum n [] = refl
below_sum n (m ∷ ns) = let h = below_sum n ns in let c = sum_by-cons (λ (k : ℕ). if ltb k n then 1 else 0) m ns in omega arith

-- percentiles are the same in any order
same_percentile : (percent n : ℕ) (ns ms : List ℕ) → IsPermutation ns ms → IsPercentile percent ms n → IsPercentile percent ns n
same_percentile percent n ns ms perm p =
    let count = length_permutation ns ms perm in
    let high : at_most n ms ≡ at_most n ns =
    at_most_sum n ms ∙ (sum_by-IsPermutation (λ (m : ℕ). if leb m n then 1 else 0) ns ms perm ∙ sym (at_most_sum n ns)) in
    let low : below n ms ≡ below n ns =
    below_sum n ms ∙ (sum_by-IsPermutation (λ (m : ℕ). if ltb m n then 1 else 0) ns ms perm ∙ sym (below_sum n ns)) in
    record {
      among = Contains-permutation ms ns n (IsPermutation-sym ns ms perm) p.among;
      reached = rw (sym count, sym high) p.reached;
      least = rw (sym count, sym low) p.least;
    }

-- the ranks of numbers that were sorted
pub same_ranks : (ns ms : List ℕ) (r : Ranks) → IsPermutation ns ms → AreRanks ms r → AreRanks ns r
same_ranks ns ms r perm h =
    let back = IsPermutation-sym ns ms perm in
    record {
      least = record {
        among = Contains-permutation ms ns r.least back h.least.among;
        least = All-permutation (λ k. r.least ≤ k) ms ns back h.least.least;
      };
      median = same_percentile 50 r.median ns ms perm h.median;
      p95 = same_percentile 95 r.p95 ns ms perm h.p95;
      p99 = same_percentile 99 r.p99 ns ms perm h.p99;
      greatest = same_percentile 100 r.greatest ns ms perm h.greatest;
    }

-- the same if there are no numbers
pub same_matches : (ns ms : List ℕ) (o : Option Ranks) → IsPermutation ns ms → MatchOption o (ms ≡ []) (AreRanks ms) → MatchOption o (ns ≡ []) (AreRanks ns)
same_matches ns ms None perm none = length_nil ns (let e = length_permutation ns ms perm in let f = ap length none in omega arith)
same_matches ns ms (Some r) perm h = same_ranks ns ms r perm h
