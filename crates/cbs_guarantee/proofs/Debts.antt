-- What streams still ask for, counted in parts of a tick so that nothing is rounded.
use Rattle.std.proofs.Common.{◌≡◌, ℕ, zero, suc, ◌+◌, ◌-◌, ◌*◌, ◌≤◌, ◌<◌, List, [], ◌∷◌, length, get_or, arith, refl, inl, inr}
use Rattle.std.specs.Prelude.{max}
use Rattle.std.specs.List.{sum_by, AllByRecursion}
use Rattle.std.proofs.lemmas.Bool.{cases_lt}
use Rattle.std.proofs.lemmas.List.Sums.{sum_by-cons}
use native.Mathlib.Nat.{mul-add, add-mul, mul_comm, mul-le-mul_left, mul-le-mul_right, le_of_mul-le-mul_right}
use Rattle.cbs_rate.specs.Plan.{share}
use Rattle.cbs_lists.specs.Lists.{changed_at}
use Rattle.cbs_lists.proofs.Lists.{AllByRecursion-get, AllByRecursion-changed_at, AllByRecursion-weaker}
use Rattle.cbs_lists.proofs.Sums.{sum_changed_same}
use Rattle.cbs_guarantee.specs.Streams.{Stream, no_stream, came}

-- a stream's share of the ticks until its next job may come
abbrev pub debt : ℕ → ℕ → Stream → ℕ
debt parts now x = share parts x.rate * (x.open_at - now)

abbrev pub debts : ℕ → ℕ → List Stream → ℕ
debts parts now xs = sum_by (debt parts now) xs

abbrev pub shares : ℕ → List Stream → ℕ
shares parts xs = sum_by (λ x. share parts x.rate) xs

abbrev pub spans : List Stream → ℕ
spans xs = sum_by (λ x. x.rate.budget) xs

-- so many ticks later a stream's debt is less by its share of them at most
debt_later : (a o now n : ℕ) → a * (o - now) ≤ a * (o - (now + n)) + n * a
debt_later a o now n =
    let le : o - now ≤ (o - (now + n)) + n = omega arith in
    let h = mul-le-mul_left a le in
    let e = mul-add a (o - (now + n)) n in
    let c = mul_comm a n in
    omega arith

debts_later : (parts now n : ℕ) (xs : List Stream) → debts parts now xs ≤ debts parts (now + n) xs + n * shares parts xs
debts_later parts now n [] = omega arith
debts_later parts now n (x ∷ xs) =
    let h = debt_later (share parts x.rate) x.open_at now n in
    let k = debts_later parts now n xs in
    let e = mul-add n (share parts x.rate) (shares parts xs) in
    rw (sum_by-cons (debt parts now) x xs, sum_by-cons (debt parts (now + n)) x xs, sum_by-cons (λ x. share parts x.rate) x xs) (omega arith)

-- if a job came, its stream's debt is its share of a whole distance, and was none before
debt_came : (a o now period : ℕ) → o ≤ now → a * (now + period - now) ≡ a * (o - now) + a * period
debt_came a o now period late =
    let e : now + period - now ≡ period = omega arith in
    let f : o - now ≡ 0 = omega arith in
    rw (e, f) (omega arith)

debts_came : (parts now i : ℕ) (xs : List Stream) → i < length xs → (get_or xs i no_stream).open_at ≤ now
    → debts parts now (changed_at (came now) xs i) ≡ debts parts now xs + share parts (get_or xs i no_stream).rate * (get_or xs i no_stream).rate.period
debts_came parts now i [] lt late = absurd (omega arith)
debts_came parts now zero (x ∷ xs) lt late =
    let h = debt_came (share parts x.rate) x.open_at now x.rate.period late in
    rw (sum_by-cons (debt parts now) (came now x) xs, sum_by-cons (debt parts now) x xs) (omega arith)
debts_came parts now (suc i) (x ∷ xs) lt late =
    let h = debts_came parts now i xs (omega arith) late in
    rw (sum_by-cons (debt parts now) x (changed_at (came now) xs i), sum_by-cons (debt parts now) x xs) (omega arith)

-- a stream has a distance, by which from now on its next job may come, and its share of a whole one comes to its span
pub record IsOpenSoon (parts now : ℕ) (x : Stream) : Type 0 where
  pub some : 0 < x.rate.period
  pub soon : x.open_at ≤ now + x.rate.period
  pub whole : share parts x.rate * x.rate.period ≡ x.rate.budget * parts

-- all debts come to the spans at most
debts_most : (parts now : ℕ) (xs : List Stream) → AllByRecursion (IsOpenSoon parts now) xs → debts parts now xs ≤ spans xs * parts
debts_most parts now [] each = omega arith
debts_most parts now (x ∷ xs) each =
    let soon = each.0.soon in
    let le : x.open_at - now ≤ x.rate.period = omega arith in
    let h = mul-le-mul_left (share parts x.rate) le in
    let whole = each.0.whole in
    let k = debts_most parts now xs each.1 in
    let e = add-mul x.rate.budget (spans xs) parts in
    rw (sum_by-cons (debt parts now) x xs, sum_by-cons (λ x. x.rate.budget) x xs) (omega arith)

-- what is due by `due` is borne: it is due by now and all debts
pub record IsBorne (parts now due : ℕ) (xs : List Stream) : Type 0 where
  pub borne : due * parts ≤ now * parts + debts parts now xs
  pub each : AllByRecursion (IsOpenSoon parts now) xs
  pub fits : shares parts xs ≤ parts

-- so it is later
pub borne_later : (parts now n due : ℕ) (xs : List Stream) → IsBorne parts now due xs → IsBorne parts (now + n) due xs
borne_later parts now n due xs h =
    let k = debts_later parts now n xs in
    let le = mul-le-mul_left n h.fits in
    let e = add-mul now n parts in
    let borne = h.borne in
    record {
      borne = omega arith;
      each = AllByRecursion-weaker (IsOpenSoon parts now) (IsOpenSoon parts (now + n)) xs h.each (λ x o.
          record { some = o.some; soon = let s = o.soon in omega arith; whole = o.whole });
      fits = h.fits;
    }

-- and if a job of a stream comes
pub borne_came : (parts now due span i : ℕ) (xs : List Stream) → IsBorne parts now due xs → i < length xs → (get_or xs i no_stream).open_at ≤ now
    → span ≤ (get_or xs i no_stream).rate.budget
    → IsBorne parts now (max due now + span) (changed_at (came now) xs i)
borne_came parts now due span i xs h lt late small =
    let e = debts_came parts now i xs lt late in
    let whole = (AllByRecursion-get (IsOpenSoon parts now) xs i no_stream h.each lt).whole in
    let le = mul-le-mul_right parts small in
    let sum = add-mul (max due now) span parts in
    let borne = h.borne in
    let most : max due now * parts ≤ now * parts + debts parts now xs = elim (cases_lt due now) [
      | inl lt ↦ let m : max due now ≡ now = omega arith in rw m (omega arith)
      | inr ge ↦ let m : max due now ≡ due = omega arith in rw m borne
    ] in
    record {
      borne = omega arith;
      each = AllByRecursion-changed_at (IsOpenSoon parts now) (IsOpenSoon parts now) (came now) xs i no_stream h.each (λ x o. o) (λ o.
          record { some = o.some; soon = omega arith; whole = o.whole });
      fits = rw (sum_changed_same (λ x. share parts x.rate) (came now) xs i (λ x. refl)) h.fits;
    }

-- then it is due by now and all spans
pub borne_by : (parts now due : ℕ) (xs : List Stream) → 0 < parts → IsBorne parts now due xs → due ≤ now + spans xs
borne_by parts now due xs some h =
    let k = debts_most parts now xs h.each in
    let e = add-mul now (spans xs) parts in
    let borne = h.borne in
    let le : due * parts ≤ (now + spans xs) * parts = omega arith in
    le_of_mul-le-mul_right le some
