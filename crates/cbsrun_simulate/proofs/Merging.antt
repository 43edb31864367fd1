-- The first of merged releases, and their order.
use Rattle.std.proofs.Common.{◌≡◌, ℕ, zero, suc, ◌+◌, ◌<◌, true, false, leb, List, [], ◌∷◌, length, arith, refl, sym, ◌∙◌, ap}
use Rattle.std.specs.Prelude.{drop, map, slice_set, get_or}
use Rattle.std.proofs.lemmas.Bool.Decides.{nat_tests}
use Rattle.std.proofs.lemmas.List.{get_or-map}
use Rattle.cbs_lists.specs.Lists.{changed_at}
use Rattle.cbsrun_simulate.specs.Merging.{put, put_all, merged, IsFirst, order_from, order_put_all}
use Rattle.cbsrun_simulate.specs.Releases.{IsInOrder}
use Rattle.cbsrun_simulate.specs.declared.release.Release.{Release}

-- a release that is not later than the others comes first
put_first : (r : Release) (qs : List Release) → IsInOrder r.tick qs → put r qs ≡ r ∷ qs
put_first r [] order = refl
put_first r (q ∷ qs) order = let t : leb r.tick q.tick ≡ true = let h = order.0 in grind (arith, nat_tests) in rw t refl

-- a release that is earlier than all of a source stays first
put_later : (q : Release) (rs qs : List Release) → IsInOrder (q.tick + 1) rs → put_all rs (q ∷ qs) ≡ q ∷ put_all rs qs
put_later q [] qs order = refl
put_later q (r ∷ rs) qs order =
    let later : q.tick < r.tick = let h = order.0 in omega arith in
    let f : leb r.tick q.tick ≡ false = grind (arith, nat_tests) in
    let e = put_later q rs qs (order_from (q.tick + 1) r.tick rs (omega arith) order.1) in
    rw e (rw f refl)

-- the first of a source, if no other is earlier
pub first_here : (r : Release) (rs : List Release) (rss : List (List Release)) → IsInOrder 0 (r ∷ rs) → IsInOrder r.tick (merged rss)
    → IsFirst ((r ∷ rs) ∷ rss) 0 r
first_here r rs rss order others = record {
  within = omega arith;
  head = refl;
  first = put_first r (put_all rs (merged rss)) (order_put_all r.tick rs (merged rss) order.1 others);
}

-- the first of the others, if it is earlier than all of the source
pub first_there : (rs : List Release) (rss : List (List Release)) (i : ℕ) (q : Release) → IsFirst rss i q → IsInOrder (q.tick + 1) rs
    → IsFirst (rs ∷ rss) (suc i) q
first_there rs rss i q h order = record {
  within = let lt = h.within in omega arith;
  head = h.head;
  first = ap (put_all rs) h.first ∙ put_later q rs (merged (changed_at (drop 1) rss i)) order;
}

module _ {S : Type 0} (coming : S → List Release) where
  -- the releases of one of the sources
  pub source_at : (xs : List S) (i : ℕ) (x : S) → i < length xs → x ≡ get_or xs i x → get_or (map coming xs) i [] ≡ coming x
  source_at xs i x lt is = get_or-map coming xs i x [] lt ∙ ap coming (sym is)

  -- a source that passed its first release
  pub went_on : (xs : List S) (i : ℕ) (x y : S) → i < length xs → x ≡ get_or xs i x → coming y ≡ drop 1 (coming x)
      → map coming (slice_set xs i y) ≡ changed_at (drop 1) (map coming xs) i
  went_on [] i x y lt is e = absurd (omega arith)
  went_on (z ∷ xs) zero x y lt is e = let same : x ≡ z = is in ap (λ rs. rs ∷ map coming xs) (rw same at e)
  went_on (z ∷ xs) (suc i) x y lt is e = ap (λ rss. coming z ∷ rss) (went_on xs i x y (omega arith) is e)

  -- the releases are then those after the first
  pub passed : (xs now : List S) (i : ℕ) (r : Release) (x y : S) → now ≡ xs → i < length xs → IsFirst (map coming xs) i r → x ≡ get_or xs i x
      → coming y ≡ drop 1 (coming x)
      → merged (map coming (slice_set xs i y)) ≡ drop 1 (merged (map coming now))
  passed xs now i r x y same lt first is e = rw same (ap merged (went_on xs i x y lt is e) ∙ sym (ap (drop 1) first.first))
