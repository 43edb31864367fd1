-- The arithmetic of demands, over plain numbers: P parts of a tick, a server of q ticks in every t, with t * p equal to
-- P, so that q * p parts of each tick are its share; budget c, deadline d.
use Rattle.std.proofs.Common.{◌≡◌, ℕ, ◌+◌, ◌-◌, ◌*◌, ◌≤◌, ◌<◌, ltb, arith, inl, inr, ap}
use Rattle.std.specs.Prelude.{if◌then◌else◌}
use Rattle.std.proofs.lemmas.Bool.{cases_lt}
use Rattle.std.proofs.lemmas.Bool.Decides.{nat_tests}
use Rattle.std.proofs.lemmas.Nat.{mul-le}

-- what is asked for up to x: nothing before the deadline, from then on c ticks, and u parts of each tick after the
-- deadline
abbrev pub asked : ℕ → ℕ → ℕ → ℕ → ℕ → ℕ
asked P u c d x = if ltb x d then 0 else c * P + (x - d) * u

-- a time in two parts
pub split : (u x b k : ℕ) → b + k ≤ x → (x - b) * u ≡ k * u + (x - (b + k)) * u
split u x b k h = let e : x - b ≡ k + (x - (b + k)) = omega arith in rw e (omega arith)

-- before the deadline nothing is asked for
pub asked_before : (P u c d x : ℕ) → x < d → asked P u c d x ≡ 0
asked_before P u c d x h = grind (arith, nat_tests)

-- and what is from then on
pub asked_from : (P u c d x : ℕ) → d ≤ x → asked P u c d x ≡ c * P + (x - d) * u
asked_from P u c d x h = grind (arith, nat_tests)

-- a longer time has a greater share
pub line-mono : (u j k : ℕ) → j ≤ k → j * u ≤ k * u
line-mono u j k h = mul-le j u k u h (omega arith)

-- a whole budget with the deadline one period after b stays below the share of the time from b on
pub asked_renewed : (P p q t b x : ℕ) → t * p ≡ P → asked P (q * p) q (b + t) x ≤ (x - b) * (q * p)
asked_renewed P p q t b x e = elim (cases_lt x (b + t)) [
  | inl lt ↦ omega (arith, asked_before P (q * p) q (b + t) x lt)
  | inr ge ↦
      let f = asked_from P (q * p) q (b + t) x ge in
      let s = split (q * p) x b t ge in
      let g : q * P ≡ t * (q * p) = rw (← e) (omega arith) in
      omega arith
]

-- a budget that an arrival leaves stays below the share of the time from now on
pub asked_kept : (P p q t c d now x : ℕ) → t * p ≡ P → now ≤ d → c * t ≤ (d - now) * q → asked P (q * p) c d x ≤ (x - now) * (q * p)
asked_kept P p q t c d now x e le h = elim (cases_lt x d) [
  | inl lt ↦ omega (arith, asked_before P (q * p) c d x lt)
  | inr ge ↦
      let f = asked_from P (q * p) c d x ge in
      let n : now + (d - now) ≡ d = omega arith in
      let s : (x - now) * (q * p) ≡ (d - now) * (q * p) + (x - d) * (q * p) = rw n at (split (q * p) x now (d - now) (omega arith)) in
      let m = line-mono p (c * t) ((d - now) * q) h in
      let a : c * P ≡ c * t * p = rw (← e) (omega arith) in
      let b : (d - now) * (q * p) ≡ (d - now) * q * p = omega arith in
      omega arith
]

-- if the deadline has come, the share of the time from now on stays below what is asked for
line_past : (P u c d now x : ℕ) → d ≤ now → now ≤ x → (x - now) * u ≤ asked P u c d x
line_past P u c d now x le h =
    let f = asked_from P u c d x (omega arith) in
    let m = line-mono u (x - now) (x - d) (omega arith) in
    omega arith

-- a budget that is too much for the time until its deadline is one for less than a period
pub within_period : (q t c k : ℕ) → 0 < q → c ≤ q → k * q ≤ c * t → k ≤ t
within_period q t c k some capped h = elim (cases_lt t k) [
  | inl lt ↦
      let a = mul-le c t q t capped (omega arith) in
      let b = mul-le (t + 1) q k q (omega arith) (omega arith) in
      absurd (omega arith)
  | inr ge ↦ ge
]

-- and from a period on, the share of the time from now on stays below what such a budget asks for
line_kept : (P p q t c d now x : ℕ) → t * p ≡ P → 0 < q → c ≤ q → now ≤ d → (d - now) * q ≤ c * t → now + t ≤ x → (x - now) * (q * p) ≤ asked P (q * p) c d x
line_kept P p q t c d now x e some capped le h far =
    let k = within_period q t c (d - now) some capped h in
    let f = asked_from P (q * p) c d x (omega arith) in
    let n : now + (d - now) ≡ d = omega arith in
    let s : (x - now) * (q * p) ≡ (d - now) * (q * p) + (x - d) * (q * p) = rw n at (split (q * p) x now (d - now) (omega arith)) in
    let m = line-mono p ((d - now) * q) (c * t) h in
    let a : c * P ≡ c * t * p = rw (← e) (omega arith) in
    let b : (d - now) * (q * p) ≡ (d - now) * q * p = omega arith in
    omega arith

-- so a renewal of such a budget asks for no more than before
pub renewed_kept : (P p q t c d now x : ℕ) → t * p ≡ P → 0 < q → c ≤ q → now ≤ x → now ≤ d → (d - now) * q ≤ c * t
    → asked P (q * p) q (now + t) x ≤ asked P (q * p) c d x
renewed_kept P p q t c d now x e some capped early le h = elim (cases_lt x (now + t)) [
  | inl lt ↦ omega (arith, asked_before P (q * p) q (now + t) x lt)
  | inr ge ↦
      let a = asked_renewed P p q t now x e in
      let b = line_kept P p q t c d now x e some capped le h ge in
      omega arith
]

-- nor does one if the deadline has come
pub renewed_past : (P p q t c d now x : ℕ) → t * p ≡ P → now ≤ x → d ≤ now → asked P (q * p) q (now + t) x ≤ asked P (q * p) c d x
renewed_past P p q t c d now x e early le =
    let a = asked_renewed P p q t now x e in
    let b = line_past P (q * p) c d now x le early in
    omega arith

-- what is paid is asked for no more, from the later deadline on
pub asked_paid : (P p q t c e d k n x : ℕ) → t * p ≡ P → e + n ≡ c + k * q → d + k * t ≤ x → asked P (q * p) e (d + k * t) x + n * P ≤ asked P (q * p) c d x
asked_paid P p q t c e d k n x eq paid h =
    let f = asked_from P (q * p) c d x (omega arith) in
    let g = asked_from P (q * p) e (d + k * t) x h in
    let s = split (q * p) x d (k * t) h in
    let a : (e + n) * P ≡ (c + k * q) * P = ap (λ (v : ℕ). v * P) paid in
    let b : k * q * P ≡ k * t * (q * p) = rw (← eq) (omega arith) in
    omega arith

-- a smaller budget asks for no more
pub asked_mono : (P u c e d x : ℕ) → c ≤ e → asked P u c d x ≤ asked P u e d x
asked_mono P u c e d x h = elim (cases_lt x d) [
  | inl lt ↦ omega (arith, asked_before P u c d x lt)
  | inr ge ↦ let m = mul-le c P e P h (omega arith) in omega (arith, asked_from P u c d x ge, asked_from P u e d x ge)
]

-- some budget asks for a tick at least, from the deadline on
pub asked_some : (P u c d x : ℕ) → 0 < c → d ≤ x → P ≤ asked P u c d x
asked_some P u c d x some h = let m = mul-le 1 P c P some (omega arith) in omega (arith, asked_from P u c d x h)

-- before the deadline there is no time after it
pub line_before : (u d x : ℕ) → x < d → (x - d) * u ≡ 0
line_before u d x h = let z : x - d ≡ 0 = omega arith in rw z (omega arith)

-- with no budget it is the share of the time after the deadline
pub asked_spent : (P u d x : ℕ) → asked P u 0 d x ≡ (x - d) * u
asked_spent P u d x = elim (cases_lt x d) [
  | inl lt ↦ omega (arith, asked_before P u 0 d x lt, line_before u d x lt)
  | inr ge ↦ omega (arith, asked_from P u 0 d x ge)
]
