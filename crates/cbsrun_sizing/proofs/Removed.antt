-- A plan admits all of its first servers except one, one after the other.
use Rattle.std.proofs.Common.{◌≡◌, ℕ, zero, suc, ◌+◌, ◌*◌, ◌/◌, ◌%◌, ◌≤◌, ◌<◌, ◌≢◌, List, [], ◌∷◌, ◌++◌}
use Rattle.std.proofs.Common.{length, take, get_or, arith, refl, ap, Option, Some, None, Result, Ok, Err}
use Rattle.std.specs.Prelude.{slice_get}
use Rattle.std.specs.List.{remove, sum_by, AllByRecursion}
use Rattle.std.specs.Result.{IsOk}
use Rattle.std.proofs.lemmas.Bool.{le-leb, lt-leb, leb-true}
use Rattle.std.proofs.lemmas.List.{take_more, length-take-le}
use Rattle.std.proofs.lemmas.List.Sums.{sum_by-cons, sum_by-take-le}
use Rattle.std.proofs.lemmas.Option.{get_or_from_slice_get}
use native.Mathlib.Nat.{mul-div_cancel', mul-le-mul_left, le_of_mul-le-mul_left}
use Rattle.cbs_rate.specs.Bound.{Fraction}
use Rattle.cbs_rate.specs.Plan.{Planned, IsPlan, IsCommonMultiple, share, total_share, all_periods, common_multiple, admit_refusal, with_rate}
use Rattle.cbs_rate.specs.Rate.{Rate, IsRate}
use Rattle.cbs_rate.specs.Refusals.{AnswersBy}
use Rattle.cbs_rate.proofs.Multiples.{AllLawful, common_multiple-least, least-dvd}
use Rattle.cbs_rate.proofs.Shares.{sum_scaled, fits_common}

-- a property of all elements holds for the first n
pub all_take : {X : Type 0} (P : X → Type 0) (n : ℕ) (xs : List X) → AllByRecursion P xs → AllByRecursion P (take n xs)
all_take P zero xs all = tt
all_take P (suc n) [] all = tt
all_take P (suc n) (x ∷ xs) all = (all.0, all_take P n xs all.1)

-- a property of all elements holds for all except one
all_remove : {X : Type 0} (P : X → Type 0) (xs : List X) (s : ℕ) → AllByRecursion P xs → AllByRecursion P (remove xs s)
all_remove P [] zero all = tt
all_remove P [] (suc s) all = tt
all_remove P (x ∷ xs) zero all = all.1
all_remove P (x ∷ xs) (suc s) all = (all.0, all_remove P xs s all.1)

-- a sum over all except one is no greater
sum_remove-le : {X : Type 0} (f : X → ℕ) (xs : List X) (s : ℕ) → sum_by f (remove xs s) ≤ sum_by f xs
sum_remove-le f [] zero = omega arith
sum_remove-le f [] (suc s) = omega arith
sum_remove-le f (x ∷ xs) zero = let e = sum_by-cons f x xs in omega arith
sum_remove-le f (x ∷ xs) (suc s) =
    let e = sum_by-cons f x xs in
    let g = sum_by-cons f x (remove xs s) in
    let rest = sum_remove-le f xs s in
    omega arith

-- a list gets no longer if one is removed
length_remove-le : {X : Type 0} (xs : List X) (s : ℕ) → length (remove xs s) ≤ length xs
length_remove-le [] zero = omega arith
length_remove-le [] (suc s) = omega arith
length_remove-le (x ∷ xs) zero = omega arith
length_remove-le (x ∷ xs) (suc s) = let rest = length_remove-le xs s in omega arith

-- removing from an empty list leaves it empty
pub remove-nil : {X : Type 0} (s : ℕ) → remove {X = X} [] s ≡ []
remove-nil zero = refl
remove-nil (suc s) = refl

-- one more server, which is the one that is left out
same_suc : {X : Type 0} (xs : List X) (t : ℕ) → remove (take (suc t) xs) t ≡ remove (take t xs) t
same_suc [] zero = refl
same_suc [] (suc t) = refl
same_suc (x ∷ xs) zero = refl
same_suc (x ∷ xs) (suc t) = ap (λ ys. x ∷ ys) (same_suc xs t)

-- the last of the elements so far is removed
pub remove_same : {X : Type 0} (xs : List X) (t : ℕ) → remove (take (t + 1) xs) t ≡ remove (take t xs) t
remove_same xs t = let e : t + 1 ≡ suc t = omega arith in rw e (same_suc xs t)

-- one more server, which is not the one that is left out
more_suc : {X : Type 0} (xs : List X) (t s : ℕ) (d : X) → t < length xs → s ≢ t → remove (take (suc t) xs) s ≡ remove (take t xs) s ++ get_or xs t d ∷ []
more_suc [] t s d lt ne = absurd (omega arith)
more_suc (x ∷ xs) zero zero d lt ne = absurd (ne refl)
more_suc (x ∷ xs) zero (suc s) d lt ne = ap (λ ys. x ∷ ys) (remove-nil s)
more_suc (x ∷ xs) (suc t) zero d lt ne =
    let more = take_more xs t d (omega arith) in
    let e : t + 1 ≡ suc t = omega arith in
    rw e at more
more_suc (x ∷ xs) (suc t) (suc s) d lt ne = ap (λ ys. x ∷ ys) (more_suc xs t s d (omega arith) (λ e. ne (ap suc e)))

-- one more element after the removed one stays
pub remove_more : {X : Type 0} (xs : List X) (t s : ℕ) (d : X) → t < length xs → s ≢ t
    → remove (take (t + 1) xs) s ≡ remove (take t xs) s ++ get_or xs t d ∷ []
remove_more xs t s d lt ne = let e : t + 1 ≡ suc t = omega arith in rw e (more_suc xs t s d lt ne)

-- a common factor is left out
scaled_fits : (num den m k c least over : ℕ) → 0 < k → k * c ≡ m → over ≡ k * least → den * over ≤ num * m → den * least ≤ num * c
scaled_fits num den m k c least over some e f h =
    let g : den * (k * least) ≤ num * (k * c) = rw (e, ← f) h in
    le_of_mul-le-mul_left {k = k} (omega arith) some

-- rates that fit over a common multiple of their periods fit
fits_over : (num den m : ℕ) (rates : List Rate) → AllLawful rates → 0 < m → IsCommonMultiple m rates → den * sum_by (share m) rates ≤ num * m
    → den * total_share rates ≤ num * all_periods rates
fits_over num den m rates all some common h =
    let least = common_multiple-least rates all in
    let d = mul-div_cancel' (common_multiple rates) {m = m} (least-dvd (common_multiple rates) m rates least common) in
    let n : m / common_multiple rates * common_multiple rates ≡ m = omega arith in
    let e = sum_scaled (common_multiple rates) (m / common_multiple rates) rates all least.common in
    let f = rw n at e in
    (fits_common num den rates all).1 (scaled_fits num den m (m / common_multiple rates) (common_multiple rates)
    (sum_by (share (common_multiple rates)) rates) (sum_by (share m) rates) (factor_some (m / common_multiple rates) (common_multiple rates) n) n f h)
  where
    factor_some : (k c : ℕ) → k * c ≡ m → 0 < k
    factor_some zero c e = absurd (omega arith)
    factor_some (suc k) c e = omega arith

-- a server that passes the three tests is admitted
none_refused : (bound : Fraction) (rates : List Rate) (r : Rate) → length rates < 64 → common_multiple (rates ++ r ∷ []) ≤ 1_000_000_000_000_000_000
    → bound.den * total_share (rates ++ r ∷ []) ≤ bound.num * all_periods (rates ++ r ∷ [])
    → admit_refusal (record { bound = bound; rates = rates }) r ≡ None
none_refused bound rates r few coarse fitting =
    let e = le-leb (bound.den * total_share (rates ++ r ∷ [])) (bound.num * all_periods (rates ++ r ∷ [])) fitting in
    rw (lt-leb 64 (length rates) few, lt-leb 1_000_000_000_000_000_001 (common_multiple (rates ++ r ∷ [])) (omega arith), e) refl

-- a plan admits its server t after its first t servers except one
pub takes_next : (plan : Planned) (t s : ℕ) (d : Rate) → IsPlan plan → t < length plan.rates → s ≢ t
    → admit_refusal (record { bound = plan.bound; rates = remove (take t plan.rates) s }) (get_or plan.rates t d) ≡ None
takes_next plan t s d ok lt ne =
    let front = take (t + 1) plan.rates in
    let m = common_multiple plan.rates in
    let least = common_multiple-least plan.rates ok.lawful in
    let lawful : AllLawful (remove front s) =
    all_remove (λ (r : Rate). IsRate r.budget r.period) front s (all_take (λ (r : Rate). IsRate r.budget r.period) (t + 1) plan.rates ok.lawful) in
    let common : IsCommonMultiple m (remove front s) =
    all_remove (λ (r : Rate). m % r.period ≡ 0) front s (all_take (λ (r : Rate). m % r.period ≡ 0) (t + 1) plan.rates least.common) in
    let few : length (remove (take t plan.rates) s) < 64 =
    omega (arith, length_remove-le (take t plan.rates) s, length-take-le t plan.rates (omega arith), ok.few) in
    let coarse : common_multiple (remove front s) ≤ 1_000_000_000_000_000_000 =
    omega (arith, (common_multiple-least (remove front s) lawful).least m least.some common, ok.coarse) in
    let fewer : sum_by (share m) (remove front s) ≤ sum_by (share m) plan.rates =
    omega (arith, sum_remove-le (share m) front s, sum_by-take-le (share m) plan.rates (t + 1)) in
    let whole = (fits_common plan.bound.num plan.bound.den plan.rates ok.lawful).0
    (leb-true (plan.bound.den * total_share plan.rates) (plan.bound.num * all_periods plan.rates) ok.fits) in
    let times = mul-le-mul_left plan.bound.den fewer in
    let fitting = fits_over plan.bound.num plan.bound.den m (remove front s) lawful least.some common (omega arith) in
    let is = remove_more plan.rates t s d lt ne in
    none_refused plan.bound (remove (take t plan.rates) s) (get_or plan.rates t d) few (rw is at coarse) (rw is at fitting)

-- the first t servers of a plan, except server s
abbrev pub front_without : Planned → ℕ → ℕ → Planned
front_without plan t s = record { bound = plan.bound; rates = remove (take t plan.rates) s }

no_rate : Rate
no_rate = record { budget = 0; period = 0 }

-- the plan of these servers admits server t
pub takes_server : (plan others : Planned) (t s : ℕ) (r : Rate) → IsPlan plan → t < length plan.rates → s ≢ t → slice_get plan.rates t ≡ Some r
    → others ≡ front_without plan t s → admit_refusal others r ≡ None
takes_server plan others t s r ok lt ne here is =
    let read = get_or_from_slice_get plan.rates t r no_rate here in
    let none = takes_next plan t s no_rate ok lt ne in
    rw is (rw read at none)

-- with server t they are one more
pub others_more : (plan others after : Planned) (t s : ℕ) (r : Rate) → t < length plan.rates → s ≢ t → slice_get plan.rates t ≡ Some r
    → others ≡ front_without plan t s → after ≡ with_rate others r → after ≡ front_without plan (t + 1) s
others_more plan others after t s r lt ne here is more =
    let read = get_or_from_slice_get plan.rates t r no_rate here in
    let e = remove_more plan.rates t s no_rate lt ne in
    rw (more, is, e, read) refl

-- the others of the plan, up to the server itself
pub others_same : (plan others : Planned) (t s : ℕ) → t ≡ s → others ≡ front_without plan t s → others ≡ front_without plan (t + 1) s
others_same plan others t s e is = rw (e, remove_same plan.rates s) (rw e at is)

-- a call that no refusal stands before succeeds
pub admitted : {T E : Type 0} (r : Result T E) (refusal : Option E) (x : T) → AnswersBy r refusal x → refusal ≡ None → IsOk r
admitted (Ok y) refusal x answer none = refl
admitted (Err e) refusal x answer none = absurd cc
