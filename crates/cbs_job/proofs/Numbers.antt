-- What taking numbers in comes to.
use Rattle.std.proofs.Common.{◌≡◌, ℕ, zero, suc, ◌+◌, ◌≤◌, ◌<◌, max, List, [], ◌∷◌, length, sum, refl, sym, ◌∙◌, ap, arith, inl, inr, ◌⊎◌}
use Rattle.std.specs.Prelude.{All, Contains, take}
use Rattle.std.proofs.lemmas.Bool.{cases_lt}
use Rattle.std.proofs.lemmas.List.Elements.{All-cons, All-nil}
use Rattle.std.proofs.lemmas.List.Sums.{sum_by-cons}
use Rattle.cbs_job.specs.Work.{whole, output_after}
use Rattle.cbs_job.specs.Numbers.{summing, peaking, IsPeak}

-- a sum comes to what it has and all its numbers
sum_whole : (ns : List ℕ) (total : ℕ) → whole summing (record { numbers = ns; output = total }) ≡ total + sum ns
sum_whole [] total = omega arith
sum_whole (n ∷ ns) total = sum_whole ns (total + n) ∙ omega (arith, sum_by-cons (λ m. m) n ns)

-- the whole result of adding up is the sum
pub whole-summing : (ns : List ℕ) → whole summing (record { numbers = ns; output = 0 }) ≡ sum ns
whole-summing ns = sum_whole ns 0 ∙ omega arith

-- with no number left a sum stays
sum_none : (k total : ℕ) → output_after summing k (record { numbers = []; output = total }) ≡ total
sum_none zero total = refl
sum_none (suc k) total = sum_none k total

-- after k units it has the first k numbers
sum_from : (k : ℕ) (ns : List ℕ) (total : ℕ) → output_after summing k (record { numbers = ns; output = total }) ≡ total + sum (take k ns)
sum_from zero ns total = omega arith
sum_from (suc k) [] total = sum_none k total ∙ omega arith
sum_from (suc k) (n ∷ ns) total = sum_from k ns (total + n) ∙ omega (arith, sum_by-cons (λ m. m) n (take k ns))

-- after k units of adding up the output is the sum of the first k numbers
pub output_after-summing : (k : ℕ) (ns : List ℕ) → output_after summing k (record { numbers = ns; output = 0 }) ≡ sum (take k ns)
output_after-summing k ns = sum_from k ns 0 ∙ omega arith

-- what seeking comes to from a greatest number so far
record IsPeakFrom (greatest : ℕ) (ns : List ℕ) (peak : ℕ) : Type 0 where
  above : greatest ≤ peak
  bound : All (λ n. n ≤ peak) ns
  from : (peak ≡ greatest) ⊎ Contains ns peak

-- the greater of two is one of them
max_cases : (a b : ℕ) → (max a b ≡ a) ⊎ (max a b ≡ b)
max_cases a b = elim (cases_lt a b) [ inl lt ↦ inr (omega arith) | inr ge ↦ inl (omega arith) ]

-- what is in a list is in a longer one
contains_later : (n : ℕ) (ns : List ℕ) (m : ℕ) → Contains ns m → Contains (n ∷ ns) m
contains_later n ns m c = (suc c.0, omega (arith, c.1), c.2)

-- with no number left a peak stays
peak_none : (k greatest : ℕ) → output_after peaking k (record { numbers = []; output = greatest }) ≡ greatest
peak_none zero greatest = refl
peak_none (suc k) greatest = peak_none k greatest

-- one more number at the start
peak_cons : (n : ℕ) (ns : List ℕ) (greatest m : ℕ) → IsPeakFrom (max greatest n) ns m → IsPeakFrom greatest (n ∷ ns) m
peak_cons n ns greatest m r =
    let a : max greatest n ≤ m = r.above in
    record {
      above = omega (arith, a);
      bound = All-cons (λ k. k ≤ m) n ns (omega (arith, a)) r.bound;
      from = elim r.from [
        | inl same ↦ elim (max_cases greatest n) [ inl e ↦ inl (same ∙ e) | inr e ↦ inr (0, omega arith, sym (same ∙ e)) ]
        | inr c ↦ inr (contains_later n ns m c)
      ];
    }

-- of no numbers the peak is the greatest so far
peak_nil : (greatest m : ℕ) → m ≡ greatest → IsPeakFrom greatest [] m
peak_nil greatest m e = record { above = omega (arith, e); bound = All-nil _; from = inl e }

-- a peak comes to the greatest of all
peak_from : (ns : List ℕ) (greatest : ℕ) → IsPeakFrom greatest ns (whole peaking (record { numbers = ns; output = greatest }))
peak_from [] greatest = peak_nil greatest _ refl
peak_from (n ∷ ns) greatest = peak_cons n ns greatest _ (peak_from ns (max greatest n))

-- after k units it is the greatest of the first k
peak_so_far : (k : ℕ) (ns : List ℕ) (greatest : ℕ) → IsPeakFrom greatest (take k ns) (output_after peaking k (record { numbers = ns; output = greatest }))
peak_so_far zero ns greatest = peak_nil greatest _ refl
peak_so_far (suc k) [] greatest = peak_nil greatest _ (peak_none k greatest)
peak_so_far (suc k) (n ∷ ns) greatest = peak_cons n (take k ns) greatest _ (peak_so_far k ns (max greatest n))

-- the peak of some numbers is one of them
contains_peak : (ns : List ℕ) (m : ℕ) → IsPeakFrom 0 ns m → 0 < length ns → Contains ns m
contains_peak [] m p some = absurd (omega arith)
contains_peak (n ∷ ns) m p some = elim p.from [
  | inl none ↦ let le : n ≤ m = p.bound 0 0 some in (0, omega arith, omega arith)
  | inr c ↦ c
]

-- that of none is 0
none_peak : (ns : List ℕ) (m : ℕ) → IsPeakFrom 0 ns m → ns ≡ [] → m ≡ 0
none_peak [] m p e = elim p.from [ inl none ↦ none | inr c ↦ let lt : c.0 < 0 = c.1 in absurd (omega (arith, lt)) ]
none_peak (n ∷ ns) m p e = let l : suc (length ns) ≡ 0 = ap length e in absurd (omega (arith, l))

-- what is reached from 0 is the greatest, or 0
from_zero : (ns : List ℕ) (m : ℕ) → IsPeakFrom 0 ns m → IsPeak ns m
from_zero ns m p = record { bound = p.bound; member = contains_peak ns m p; none = none_peak ns m p }

-- the whole result of seeking the greatest is the greatest, or 0
pub IsPeak-whole-peaking : (ns : List ℕ) → IsPeak ns (whole peaking (record { numbers = ns; output = 0 }))
IsPeak-whole-peaking ns = from_zero ns _ (peak_from ns 0)

-- after k units of seeking the greatest the output is the greatest of the first k numbers, or 0
pub IsPeak-output_after-peaking : (k : ℕ) (ns : List ℕ) → IsPeak (take k ns) (output_after peaking k (record { numbers = ns; output = 0 }))
IsPeak-output_after-peaking k ns = from_zero (take k ns) _ (peak_so_far k ns 0)
