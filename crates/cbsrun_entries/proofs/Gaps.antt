-- Listed ticks, each later than the one before it, and how far they are apart.
use Rattle.std.proofs.Common.{◌≡◌, ℕ, ◌+◌, ◌-◌, ◌≤◌, ◌<◌, min, max, true, false, leb, ◌&&◌, List, [], ◌∷◌, length, drop, get_or, refl, ap, sym, ◌∙◌, arith, inl, inr}
use Rattle.std.proofs.Common.{ℤ, pos, Option, Some, Result, Ok, Err}
use Rattle.std.specs.Prelude.{nat_le, unwrap_or}
use Rattle.std.proofs.lemmas.Bool.{and_from, cases_Bool}
use Rattle.std.proofs.lemmas.Bool.Decides.{nat_tests}
use Rattle.std.proofs.lemmas.List.{drop_more}
use Rattle.cbs_rules.specs.Rules.{clock_end}
use Rattle.cbsrun_simulate.specs.Drawing.{follow, IsListed}
use Rattle.cbsrun_simulate.specs.Bounds.{Bounds}
use Rattle.cbsrun_simulate.specs.declared.terms.SourceTerms.{SourceTerms}
use Rattle.cbsrun_toml_tables.specs.declared.fault.FileKind.TheVariants.{OutOfRange}
use Rattle.cbsrun_toml_tables.specs.Fields.{◌>>=◌, of_some, within}
use Rattle.cbs_rate.specs.Limits.{longest_period, most_units}
use Rattle.cbsrun_entries.specs.Sources.{FieldsData, first_listed, least_gap, greatest_gap, range_within, server_named, spelled_by}
use Rattle.cbsrun_simulate.proofs.Nominal.{first_follows}

-- two values of the same result are the same
same_ok : {A E : Type 0} (x y : A) → (let r : Result A E = Ok x in r ≡ Ok y) → x ≡ y
same_ok x y e = cc

-- no gap is said to be greater than the clock's end
pub least_small : (n : ℕ) (ns : List ℕ) → least_gap n ns ≤ clock_end
least_small n [] = omega arith
least_small n (m ∷ ms) = let rest = least_small m ms in omega arith

-- ticks of which each is later than the one before it are at least so far apart as the least of their gaps
pub follow_by : (gap n : ℕ) (ns : List ℕ) → gap ≤ least_gap n ns → follow 1 n ns ≡ true → follow gap n ns ≡ true
follow_by gap n [] le h = refl
follow_by gap n (m ∷ ms) le h =
    let is = first_follows 1 n m ms h in
    let later : n + 1 ≤ m = is.0 in
    let early : m ≤ clock_end = is.1 in
    let here : leb (n + gap) m ≡ true = grind (arith, nat_tests) in
    let there : leb m clock_end ≡ true = grind (arith, nat_tests) in
    and_from (leb (n + gap) m) (leb m clock_end && follow gap m ms) here
    (and_from (leb m clock_end) (follow gap m ms) there (follow_by gap m ms (omega arith) is.2))

-- one more of the ticks from i on: it is later than the one before it, and not after the clock's end
pub ascends_on : (before i : ℕ) (ns : List ℕ) → i < length ns → before < get_or ns i 0 → get_or ns i 0 ≤ clock_end
    → follow 1 (get_or ns i 0) (drop (i + 1) ns) ≡ follow 1 before (drop i ns)
ascends_on before i ns lt later early =
    let n = get_or ns i 0 in
    let here : leb (before + 1) n ≡ true = grind (arith, nat_tests) in
    let there : leb n clock_end ≡ true = grind (arith, nat_tests) in
    rw (drop_more ns i 0 lt, here, there) refl

-- it is not later
pub ascends_not : (before i : ℕ) (ns : List ℕ) → i < length ns → get_or ns i 0 ≤ before → follow 1 before (drop i ns) ≡ false
ascends_not before i ns lt early =
    let n = get_or ns i 0 in
    let here : leb (before + 1) n ≡ false = grind (arith, nat_tests) in
    rw (drop_more ns i 0 lt, here) refl

-- the gaps from i on, with the one before the tick there
pub least_on : (before i : ℕ) (ns : List ℕ) → i < length ns
    → least_gap before (drop i ns) ≡ min (get_or ns i 0 - before) (least_gap (get_or ns i 0) (drop (i + 1) ns))
least_on before i ns lt = rw (drop_more ns i 0 lt) refl

pub greatest_on : (before i : ℕ) (ns : List ℕ) → i < length ns
    → greatest_gap before (drop i ns) ≡ max (get_or ns i 0 - before) (greatest_gap (get_or ns i 0) (drop (i + 1) ns))
greatest_on before i ns lt = rw (drop_more ns i 0 lt) refl

-- if two tests in a row succeed, the first does, and the second of its value
then_ok : {A B E : Type 0} (r : Result A E) (f : A → Result B E) (y : B) → (r >>= f) ≡ Ok y → (x : A) × (r ≡ Ok x) × (f x ≡ Ok y)
then_ok (Ok x) f y e = (x, refl, e)
then_ok (Err k) f y e = cc

-- a number that is in its range is that number
within_is : (low high n x : ℕ) → within low high (pos n) ≡ Ok x → n ≡ x
within_is low high n x e = elim (cases_Bool (nat_le low n && nat_le n high)) [
  | inl y ↦ let is : Ok n ≡ Ok x = rw y at e in cc
  | inr k ↦ let is : Err OutOfRange ≡ Ok x = rw k at e in cc
]

first_is : (z : Option ℤ) (n : ℕ) (o : Option ℕ) → z ≡ Some (pos n) → of_some (within 0 clock_end) z ≡ Ok o → o ≡ Some n
first_is z n o said e =
    let y = then_ok (within 0 clock_end (pos n)) (λ y. Ok (Some y)) o (rw said at e) in
    let is = within_is 0 clock_end n y.0 y.1 in
    let told = y.2 in
    cc

least_is : (z : Option (ℤ × ℤ)) (a b : ℕ) (r : Bounds) → z ≡ Some (pos a, pos b) → range_within 1 clock_end z ≡ Ok r → r.least ≡ a
least_is z a b r said e =
    let least =
    then_ok (within 1 clock_end (pos a)) (λ least. within least clock_end (pos b) >>= λ greatest. Ok (record { least = least; greatest = greatest })) r (rw said at e) in
    let greatest = then_ok (within least.0 clock_end (pos b)) (λ greatest. Ok (record { least = least.0; greatest = greatest })) r least.2 in
    let is = within_is 1 clock_end a least.0 least.1 in
    sym (ap (λ (x : Bounds). x.least) (same_ok (record { least = least.0; greatest = greatest.0 }) r greatest.2)) ∙ sym is

-- the source that values spell begins at the tick that they say, and its least `every` is the one that they say
pub spelled_timing : (names : List (List ℕ)) (f : FieldsData) (t : SourceTerms) (n a b : ℕ) → f.first ≡ Some (pos n) → f.every ≡ Some (pos a, pos b)
    → spelled_by names f ≡ Ok t → (t.first ≡ n) × (t.every.least ≡ a)
unfolding spelled_by
spelled_timing names f t n a b first every e =
    let server = then_ok (server_named names f.server) _ t e in
    let first_read = then_ok (of_some (within 0 clock_end) f.first) _ t server.2 in
    let every_read = then_ok (range_within 1 clock_end f.every) _ t first_read.2 in
    let units = then_ok (range_within 1 most_units f.units) _ t every_read.2 in
    let jobs = then_ok (of_some (within 1 clock_end) f.jobs) _ t units.2 in
    let deadline = then_ok (of_some (within 1 clock_end) f.within) _ t jobs.2 in
    let overrun = then_ok (of_some (range_within 0 longest_period) f.overrun) _ t deadline.2 in
    let jitter = then_ok (of_some (within 0 (every_read.0.least - 1)) f.jitter) _ t overrun.2 in
    let is = same_ok _ t jitter.2 in
    let first_told = first_is f.first n first_read.0 first first_read.1 in
    let least_told = least_is f.every a b every_read.0 every every_read.1 in (
      sym (ap (λ (x : SourceTerms). x.first) is) ∙ ap (λ o. unwrap_or o 0) first_told,
      sym (ap (λ (x : SourceTerms). x.every.least) is) ∙ least_told,
    )

-- the ticks that a source lists follow its first one
pub listed_are : (names : List (List ℕ)) (f : FieldsData) (t : SourceTerms) (listed : List ℕ) (b : ℕ) → f.first ≡ Some (pos (first_listed listed))
    → f.every ≡ Some (pos (least_gap (first_listed listed) (drop 1 listed)), pos b) → spelled_by names f ≡ Ok t
    → follow 1 (first_listed listed) (drop 1 listed) ≡ true → IsListed t listed
listed_are names f t listed b first every e ascends =
    let is = spelled_timing names f t (first_listed listed) (least_gap (first_listed listed) (drop 1 listed)) b first every e in
    rw (is.0, is.1) (follow_by (least_gap (first_listed listed) (drop 1 listed)) (first_listed listed) (drop 1 listed) (omega arith) ascends)
