-- Entries come into the list of the ready servers, and leave it.
use Rattle.std.proofs.Common.{◌≡◌, ◌≢◌, ℕ, zero, suc, ◌+◌, ◌<◌, ◌≤◌, true, false, eqb, List, [], ◌∷◌, ◌++◌, length, take, drop, get_or, map, Some, None, if◌then◌else◌, refl}
use Rattle.std.proofs.Common.{sym, ap, ◌∙◌, inl, inr, arith}
use Rattle.std.proofs.lemmas.Bool.{cases_Bool}
use Rattle.std.proofs.lemmas.Bool.Decides.{nat_tests}
use Rattle.std.proofs.lemmas.List.{length-map}
use Rattle.std.proofs.lemmas.Map.Steps.{length-le_from_distinct_below}
use Rattle.std.specs.List.{AllByRecursion, IsDistinct, list_any}
use Rattle.cbs_lists.proofs.Lists.{AllByRecursion-map, AllByRecursion-weaker}
use Rattle.cbs_ready.specs.declared.entries.Entry.{Entry}
use Rattle.cbs_ready.specs.ReadyList.{is_ahead, listed, first_of, entered, without, IsApart, IsOrdered}

-- an entry that is ahead of another is ahead of all that the other is ahead of
pub ahead_along : (x e r : Entry) → is_ahead x e ≡ true → is_ahead e r ≡ true → is_ahead x r ≡ true
ahead_along x e r a b = grind (arith, nat_tests)

-- of two servers one is ahead
ahead_other : (x e : Entry) → x.server ≢ e.server → is_ahead x e ≡ false → is_ahead e x ≡ true
ahead_other x e ne f = grind (arith, nat_tests)

-- a server that is not listed has no entry
unlisted : (s : ℕ) (es : List Entry) → listed es s ≡ None → AllByRecursion (λ r. s ≢ r.server) es
unlisted s [] none = tt
unlisted s (e ∷ es) none = elim (cases_Bool (eqb e.server s)) [
  | inl t ↦ absurd (let h = rw t at none in cc)
  | inr f ↦ (λ q. let z : eqb e.server s ≡ true = grind (arith, nat_tests) in cc, unlisted s es (rw f at none))
]

-- a server that has no entry is not listed
listed-none : (s : ℕ) (es : List Entry) → AllByRecursion (λ r. s ≢ r.server) es → listed es s ≡ None
listed-none s [] all = refl
listed-none s (e ∷ es) all =
    let ne = all.0 in
    let f : eqb e.server s ≡ false = grind (arith, nat_tests) in
    rw f (listed-none s es all.1)

-- what holds of the new entry and of the others holds of all
pub All-entered : (P : Entry → Type 0) (x : Entry) (es : List Entry) → P x → AllByRecursion P es → AllByRecursion P (entered x es)
All-entered P x [] h all = (h, tt)
All-entered P x (e ∷ es) h all = elim (cases_Bool (is_ahead x e)) [ inl t ↦ rw t (h, all) | inr f ↦ rw f (all.0, All-entered P x es h all.1) ]

-- an entry ahead of the first stands before all
apart_all : (x e : Entry) (es : List Entry) → is_ahead x e ≡ true → AllByRecursion (IsApart e) es → AllByRecursion (λ r. x.server ≢ r.server) es
    → AllByRecursion (IsApart x) es
apart_all x e [] b all ne = tt
apart_all x e (r ∷ rs) b all ne = (record { ahead = ahead_along x e r b all.0.ahead; other = ne.0 }, apart_all x e rs b all.1 ne.1)

-- the list stays in order if an entry enters whose server has none
ordered_by : (x : Entry) (es : List Entry) → IsOrdered es → AllByRecursion (λ r. x.server ≢ r.server) es → IsOrdered (entered x es)
ordered_by x [] sorted ne = (tt, tt)
ordered_by x (e ∷ es) sorted ne = elim (cases_Bool (is_ahead x e)) [
  | inl t ↦ rw t ((record { ahead = t; other = ne.0 }, apart_all x e es t sorted.0 ne.1), sorted)
  | inr f ↦ rw f (All-entered (IsApart e) x es (record { ahead = ahead_other x e ne.0 f; other = λ q. ne.0 (sym q) }) sorted.0, ordered_by x es sorted.1 ne.1)
]

-- the list stays in order if a server enters that is not listed
pub ordered-entered : (x : Entry) (es : List Entry) → IsOrdered es → listed es x.server ≡ None → IsOrdered (entered x es)
ordered-entered x es sorted none = ordered_by x es sorted (unlisted x.server es none)

-- a server that entered is listed with its deadline
pub listed-here : (x : Entry) (es : List Entry) → listed es x.server ≡ None → listed (entered x es) x.server ≡ Some x.deadline
listed-here x [] none = let t : eqb x.server x.server ≡ true = grind (arith, nat_tests) in rw t refl
listed-here x (e ∷ es) none =
    let t : eqb x.server x.server ≡ true = grind (arith, nat_tests) in
    let ne = (unlisted x.server (e ∷ es) none).0 in
    let f' : eqb e.server x.server ≡ false = grind (arith, nat_tests) in
    elim (cases_Bool (is_ahead x e)) [ inl b ↦ rw (b, t) refl | inr f ↦ rw (f, f') (listed-here x es (rw f' at none)) ]

-- every other server is listed as before
pub listed-other : (x : Entry) (es : List Entry) (t : ℕ) → t ≢ x.server → listed (entered x es) t ≡ listed es t
listed-other x [] t ne = let f : eqb x.server t ≡ false = grind (arith, nat_tests) in rw f refl
listed-other x (e ∷ es) t ne =
    let f' : eqb x.server t ≡ false = grind (arith, nat_tests) in
    elim (cases_Bool (is_ahead x e)) [
      | inl b ↦ rw (b, f') refl
      | inr f ↦ rw f (ap (λ o. if eqb e.server t then Some e.deadline else o) (listed-other x es t ne))
    ]

-- the first server is not listed again after the first place
pub rest_here : (s : ℕ) (es : List Entry) → IsOrdered es → first_of es ≡ Some s → listed (drop 1 es) s ≡ None
rest_here s [] sorted h = cc
rest_here s (e ∷ es) sorted h =
    let q : e.server ≡ s = cc in
    listed-none s es (AllByRecursion-weaker (IsApart e) (λ r. s ≢ r.server) es sorted.0 (λ r apart x. apart.other (q ∙ x)))

-- an entry less keeps what holds of all
All-without : (P : Entry → Type 0) (s : ℕ) (es : List Entry) → AllByRecursion P es → AllByRecursion P (without s es)
All-without P s [] all = tt
All-without P s (e ∷ es) all = elim (cases_Bool (eqb e.server s)) [ inl t ↦ rw t all.1 | inr f ↦ rw f (all.0, All-without P s es all.1) ]

-- the list stays in order if a server leaves
pub ordered-without : (s : ℕ) (es : List Entry) → IsOrdered es → IsOrdered (without s es)
ordered-without s [] sorted = tt
ordered-without s (e ∷ es) sorted = elim (cases_Bool (eqb e.server s)) [
  | inl t ↦ rw t sorted.1
  | inr f ↦ rw f (All-without (IsApart e) s es sorted.0, ordered-without s es sorted.1)
]

pub known-without : (n s : ℕ) (es : List Entry) → AllByRecursion (λ e. e.server < n) es → AllByRecursion (λ e. e.server < n) (without s es)
known-without n s es all = All-without (λ e. e.server < n) s es all

-- a server that left is not listed
pub gone-without : (s : ℕ) (es : List Entry) → IsOrdered es → listed (without s es) s ≡ None
gone-without s [] sorted = refl
gone-without s (e ∷ es) sorted = elim (cases_Bool (eqb e.server s)) [
  | inl t ↦
      let q : e.server ≡ s = grind (arith, nat_tests) in
      rw t (listed-none s es (AllByRecursion-weaker (IsApart e) (λ r. s ≢ r.server) es sorted.0 (λ r apart x. apart.other (q ∙ x))))
  | inr f ↦ rw f (rw f (gone-without s es sorted.1))
]

-- every other is listed as before
pub others-without : (s : ℕ) (es : List Entry) (t : ℕ) → t ≢ s → listed (without s es) t ≡ listed es t
others-without s [] t ne = refl
others-without s (e ∷ es) t ne = elim (cases_Bool (eqb e.server s)) [
  | inl y ↦
      let q : e.server ≡ s = grind (arith, nat_tests) in
      let f : eqb e.server t ≡ false = rw q (grind (arith, nat_tests)) in
      rw (y, f) refl
  | inr f ↦ rw f (ap (λ o. if eqb e.server t then Some e.deadline else o) (others-without s es t ne))
]

-- if none of the first entries is of server s, it leaves from after them
without_after : (s : ℕ) (es : List Entry) (p : ℕ) → AllByRecursion (λ e. eqb e.server s ≡ false) (take p es) → without s es ≡ take p es ++ without s (drop p es)
without_after s es zero all = refl
without_after s [] (suc p) all = refl
without_after s (e ∷ es) (suc p) all = rw all.0 (ap (λ xs. e ∷ xs) (without_after s es p all.1))

-- so it leaves from its place
pub place_found : (s : ℕ) (es : List Entry) (p : ℕ) (d : Entry) → p < length es → AllByRecursion (λ e. eqb e.server s ≡ false) (take p es)
    → eqb (get_or es p d).server s ≡ true → without s es ≡ take p es ++ drop (suc p) es
place_found s [] p d lt all here = absurd (omega arith)
place_found s (e ∷ es) zero d lt all here = rw here refl
place_found s (e ∷ es) (suc p) d lt all here = rw all.0 (ap (λ xs. e ∷ xs) (place_found s es p d (omega arith) all.1 here))

-- or from none
pub place_none : (s : ℕ) (es : List Entry) (p : ℕ) → length es ≤ p → AllByRecursion (λ e. eqb e.server s ≡ false) (take p es)
    → without s es ≡ take p es ++ drop (suc p) es
place_none s [] zero le all = refl
place_none s [] (suc p) le all = refl
place_none s (e ∷ es) zero le all = absurd (omega arith)
place_none s (e ∷ es) (suc p) le all = rw all.0 (ap (λ xs. e ∷ xs) (place_none s es p (omega arith) all.1))

-- what holds of the first, and of the next, holds of one more
pub All-take_more : (P : Entry → Type 0) (es : List Entry) (p : ℕ) (d : Entry) → p < length es → AllByRecursion P (take p es) → P (get_or es p d) → AllByRecursion P (take (suc p) es)
All-take_more P [] p d lt all here = absurd (omega arith)
All-take_more P (e ∷ es) zero d lt all here = (here, tt)
All-take_more P (e ∷ es) (suc p) d lt all here = (all.0, All-take_more P es p d (omega arith) all.1 here)

-- an entry that is taken from after the slots that lie idle
pub drop-removed : (xs : List Entry) (f p : ℕ) → drop f (take (f + p) xs ++ drop (suc (f + p)) xs) ≡ take p (drop f xs) ++ drop (suc p) (drop f xs)
drop-removed xs zero p = let z : zero + p ≡ p = omega arith in rw z refl
drop-removed [] (suc f) p = rw (take_none (suc f + p), drop_none (suc (suc f + p)), drop_none (suc f), take_none p, drop_none (suc p)) refl
  where
    take_none : (n : ℕ) → (let none : List Entry = [] in take n none ≡ none)
    take_none zero = refl
    take_none (suc n) = refl

    drop_none : (n : ℕ) → (let none : List Entry = [] in drop n none ≡ none)
    drop_none zero = refl
    drop_none (suc n) = refl
drop-removed (x ∷ xs) (suc f) p = let z : suc f + p ≡ suc (f + p) = omega arith in rw z (drop-removed xs f p)

-- the first is ahead of every other that is listed
pub first_ahead : (e : Entry) (es : List Entry) (t d : ℕ) → AllByRecursion (IsApart e) es → listed es t ≡ Some d
    → is_ahead e (record { deadline = d; server = t }) ≡ true
first_ahead e [] t d all h = cc
first_ahead e (r ∷ rs) t d all h = elim (cases_Bool (eqb r.server t)) [
  | inl b ↦
      let same : r.server ≡ t = grind (arith, nat_tests) in
      let found : Some r.deadline ≡ Some d = rw b at h in
      let at : r.deadline ≡ d = cc in
      rw (← same, ← at) all.0.ahead
  | inr f ↦ first_ahead e rs t d all.1 (rw f at h)
]

-- no two entries of a list in order have one server
distinct : (es : List Entry) → IsOrdered es → IsDistinct eqb (map (λ (r : Entry). r.server) es)
unfolding IsDistinct
distinct [] sorted = tt
distinct (e ∷ es) sorted = (
  AllByRecursion-map (IsApart e) (λ t. eqb e.server t ≡ false) (λ (r : Entry). r.server) es sorted.0
      (λ r apart. let ne = apart.other in grind (arith, nat_tests)),
  distinct es sorted.1,
)

-- a server that has an entry is below a bound of all
known_below : (n : ℕ) (es : List Entry) (q : ℕ) → AllByRecursion (λ r. r.server < n) es → list_any (eqb q) (map (λ (r : Entry). r.server) es) ≡ true → q < n
known_below n [] q all h = cc
known_below n (e ∷ es) q all h = elim (cases_Bool (eqb q e.server)) [
  | inl t ↦ let below = all.0 in grind (arith, nat_tests)
  | inr f ↦ known_below n es q all.1 (rw f at h)
]

-- there is a place for a server that is not listed, since servers are numbered below n
pub place_for : (n : ℕ) (x : Entry) (es : List Entry) → IsOrdered es → AllByRecursion (λ r. r.server < n) es → listed es x.server ≡ None → x.server < n
    → length es < n
unfolding IsDistinct
place_for n x es sorted all none lt =
    let all_servers = x.server ∷ map (λ (r : Entry). r.server) es in
    let others = AllByRecursion-map (λ r. x.server ≢ r.server) (λ t. eqb x.server t ≡ false) (λ (r : Entry). r.server) es (unlisted x.server es none)
    (λ r ne. grind (arith, nat_tests)) in
    let few = length-le_from_distinct_below all_servers n (others, distinct es sorted) (λ q h. known_below n (x ∷ es) q (lt, all) h) in
    omega (arith, length-map es (λ (r : Entry). r.server))
