-- A source after a release.
use Rattle.std.proofs.Common.{◌≡◌, ℕ, zero, suc, ◌+◌, ◌-◌, ◌≤◌, ◌<◌, max, min, true, false, ltb, List, [], ◌∷◌, length, arith, refl, sym, ◌∙◌, ap, inl, inr}
use Rattle.std.specs.Prelude.{drop}
use Rattle.std.proofs.lemmas.Bool.{cases_Bool}
use Rattle.rand_pcg.specs.Lcg.{Lcg}
use Rattle.std.proofs.lemmas.Bool.Decides.{nat_tests}
use Rattle.cbsrun_simulate.specs.Drawing.{Cursor, drawn, up_to, follow, release_of, next_nominal, released, pending, pending_from}
use Rattle.cbsrun_simulate.specs.declared.terms.SourceTerms.{SourceTerms}
use Rattle.cbsrun_simulate.proofs.Nominal.{next_follows}

-- the next job's units, overrun and tick were drawn from a generator, and the later draws go on with the generator that
-- was left. The job does not come before the tick `since`, and a tick past the end may be any other past the end
pub record DrawsNext (c : Cursor) (since : ℕ) (g : Lcg) : Type 0 where
  pub units : c.units ≡ (drawn c.terms.units g).0
  pub overrun : c.overrun ≡ (drawn c.terms.overrun (drawn c.terms.units g).1).0
  pub tick : let j = drawn (up_to c.terms.jitter) (drawn c.terms.overrun (drawn c.terms.units g).1).1 in
      min c.until c.tick ≡ min c.until (max since (c.nominal + j.0))
  pub draws : c.draws ≡ (drawn (up_to c.terms.jitter) (drawn c.terms.overrun (drawn c.terms.units g).1).1).1

-- this holds after the three draws
draws_next : (c : Cursor) (since n : ℕ) (f g h : Lcg) → (c.units, g) ≡ drawn c.terms.units f → (c.overrun, h) ≡ drawn c.terms.overrun g
    → (n, c.draws) ≡ drawn (up_to c.terms.jitter) h → min c.until c.tick ≡ min c.until (max since (c.nominal + n)) → DrawsNext c since f
draws_next c since n f g h units overrun late tick =
    let here : g ≡ (drawn c.terms.units f).1 = ap (λ p. p.1) units in
    let over : (c.overrun, h) ≡ drawn c.terms.overrun (drawn c.terms.units f).1 = rw here at overrun in
    let there : h ≡ (drawn c.terms.overrun (drawn c.terms.units f).1).1 = ap (λ p. p.1) over in
    let by : (n, c.draws) ≡ drawn (up_to c.terms.jitter) (drawn c.terms.overrun (drawn c.terms.units f).1).1 = rw there at late in
    record { units = ap (λ p. p.0) units; overrun = ap (λ p. p.0) over; tick = rw (← ap (λ p. p.0) by) tick; draws = ap (λ p. p.1) by }

-- the source then releases what is drawn from that generator
pub pending_is : (k : ℕ) (c : Cursor) (since : ℕ) (g : Lcg) → DrawsNext c since g
    → pending_from k c ≡ released c.place c.terms c.until k c.listed c.nominal since g
pending_is zero c since g h = refl
pending_is (suc k) c since g h =
    let j = drawn (up_to c.terms.jitter) (drawn c.terms.overrun (drawn c.terms.units g).1).1 in
    let tick : ℕ = max since (c.nominal + j.0) in
    let same : min c.until c.tick ≡ min c.until tick = h.tick in
    elim (cases_Bool (ltb c.tick c.until)) [
      | inl y ↦
          let early : c.tick < c.until = grind (arith, nat_tests) in
          let is : c.tick ≡ tick = omega arith in
          rw (h.units, h.overrun, h.draws, is) refl
      | inr n ↦
          let late : c.until ≤ c.tick = grind (arith, nat_tests) in
          let past : c.until ≤ tick = omega arith in
          let f : ltb tick c.until ≡ false = grind (arith, nat_tests) in
          rw (n, f) refl
    ]

-- a release that is left comes before the end
early_from : (k : ℕ) (c : Cursor) → 0 < length (pending_from k c) → c.tick < c.until
early_from zero c some = absurd (omega arith)
early_from (suc k) c some = elim (cases_Bool (ltb c.tick c.until)) [
  | inl t ↦ let early : c.tick < c.until = grind (arith, nat_tests) in early
  | inr f ↦ let none : 0 < 0 = rw f at some in absurd (omega arith)
]

pub next_early : (c now : Cursor) → c ≡ now → 0 < length (pending now) → c.tick < c.until
next_early c now same some =
    let left : 0 < length (pending c) = rw same some in
    early_from c.left c left

-- after the first release that is left, the later draws go on with the generator that the next nominal tick left
rest_is : (k : ℕ) (c : Cursor) → 0 < length (pending_from k c)
    → (let e = next_nominal c.terms.every c.listed c.nominal c.draws in released c.place c.terms c.until (k - 1) (drop 1 c.listed) e.0 c.tick e.1)
    ≡ drop 1 (pending_from k c)
rest_is zero c some = absurd (omega arith)
rest_is (suc k) c some = elim (cases_Bool (ltb c.tick c.until)) [
  | inl t ↦ let e : suc k - 1 ≡ k = omega arith in rw (t, e) refl
  | inr f ↦ let none : 0 < 0 = rw f at some in absurd (omega arith)
]

-- a source that knows its next nominal tick, and then has drawn the next units, overrun and jitter, goes on to the next job
pub source_passed : (c now : Cursor) (listed : List ℕ) (n a b j : ℕ) (f g h i : Lcg) → c ≡ now → 0 < length (pending now)
    → (n, f) ≡ next_nominal c.terms.every c.listed c.nominal c.draws → listed ≡ drop 1 c.listed
    → (a, g) ≡ drawn c.terms.units f → (b, h) ≡ drawn c.terms.overrun g → (j, i) ≡ drawn (up_to c.terms.jitter) h
    → pending (record c { listed = listed; left = c.left - 1; nominal = n; tick = max c.tick (n + j); units = a; overrun = b; draws = i })
    ≡ drop 1 (pending now)
source_passed c now listed n a b j f g h i same some ticks rest_listed units overrun late =
    let new : Cursor =
    record c { listed = listed; left = c.left - 1; nominal = n; tick = max c.tick (n + j); units = a; overrun = b; draws = i } in
    let left : 0 < length (pending c) = rw same some in
    let rest = rest_is c.left c left in
    let is : released c.place c.terms c.until (c.left - 1) listed n c.tick f ≡ drop 1 (pending c) =
    rw (rest_listed, ap (λ p. p.0) ticks, ap (λ p. p.1) ticks) rest in
    pending_is (c.left - 1) new c.tick f (draws_next new c.tick j f g h units overrun late refl) ∙ is ∙ ap (λ x. drop 1 (pending x)) same

-- when the nominal tick is at `until`, nothing is released, however many jobs are left
none_released : (place : ℕ) (t : SourceTerms) (until k : ℕ) (listed : List ℕ) (nominal since : ℕ) (g : Lcg) → until ≤ nominal
    → released place t until k listed nominal since g ≡ []
none_released place t until zero listed nominal since g late = refl
none_released place t until (suc k) listed nominal since g late =
    let j = drawn (up_to t.jitter) (drawn t.overrun (drawn t.units g).1).1 in
    let tick : ℕ = max since (nominal + j.0) in
    let past : until ≤ tick = omega arith in
    let f : ltb tick until ≡ false = grind (arith, nat_tests) in
    rw f refl

-- as many jobs as ticks to `until` are as good as more, if at least one tick is between two nominal ticks
pub enough_released : (place : ℕ) (t : SourceTerms) (until k m : ℕ) (listed : List ℕ) (nominal since : ℕ) (g : Lcg) → 0 < t.every.least
    → follow t.every.least nominal listed ≡ true → until ≤ nominal + k → k ≤ m
    → released place t until k listed nominal since g ≡ released place t until m listed nominal since g
enough_released place t until zero m listed nominal since g some follows le more =
    sym (none_released place t until m listed nominal since g (omega arith))
enough_released place t until (suc k) zero listed nominal since g some follows le more = absurd (omega arith)
enough_released place t until (suc k) (suc m) listed nominal since g some follows le more =
    let u = drawn t.units g in
    let o = drawn t.overrun u.1 in
    let j = drawn (up_to t.jitter) o.1 in
    let e = next_nominal t.every listed nominal j.1 in
    let tick : ℕ = max since (nominal + j.0) in
    let next = next_follows t.every listed nominal j.1 follows in
    let later : nominal + t.every.least ≤ e.0 = next.0 in
    elim (cases_Bool (ltb tick until)) [
      | inl y ↦ rw y (ap (λ rs. release_of place t tick u.0 o.0 ∷ rs) (enough_released place t until k m (drop 1 listed) e.0 tick e.1 some next.1 (omega arith) (omega arith)))
      | inr n ↦ rw n refl
    ]

-- a new source with a count of jobs releases what is drawn
pub begun : (c : Cursor) (n : ℕ) (f g h : Lcg) → (c.units, g) ≡ drawn c.terms.units f → (c.overrun, h) ≡ drawn c.terms.overrun g
    → (n, c.draws) ≡ drawn (up_to c.terms.jitter) h → min c.until c.tick ≡ min c.until (c.nominal + n)
    → pending c ≡ released c.place c.terms c.until c.left c.listed c.nominal 0 f
begun c n f g h units overrun late tick = pending_is c.left c 0 f (draws_next c 0 n f g h units overrun late (omega arith))

-- one without a count releases as many jobs as come
pub endless : (c : Cursor) (n : ℕ) (f g h : Lcg) (k : ℕ) → (c.units, g) ≡ drawn c.terms.units f → (c.overrun, h) ≡ drawn c.terms.overrun g
    → (n, c.draws) ≡ drawn (up_to c.terms.jitter) h → min c.until c.tick ≡ min c.until (c.nominal + n)
    → c.left ≡ c.until → 0 < c.terms.every.least → follow c.terms.every.least c.nominal c.listed ≡ true → c.until ≤ k
    → pending c ≡ released c.place c.terms c.until k c.listed c.nominal 0 f
endless c n f g h k units overrun late tick left some follows more =
    begun c n f g h units overrun late tick
    ∙ rw left (enough_released c.place c.terms c.until c.until k c.listed c.nominal 0 f some follows (omega arith) more)
