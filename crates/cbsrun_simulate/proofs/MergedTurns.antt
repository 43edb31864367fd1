-- Several sources, and the tree of their turns.
use Rattle.std.proofs.Common.{◌≡◌, ◌≢◌, ℕ, ◌+◌, ◌*◌, ◌/◌, ◌<◌, List, [], ◌∷◌, length, map, get_or, refl, sym, subst, ◌∙◌, ap, arith, inl, inr, Option, Some}
use Rattle.std.proofs.Common.{None}
use Rattle.std.specs.Option.{option_map}
use Rattle.std.specs.Prelude.{slice_get, slice_set, drop, IfSome}
use Rattle.std.proofs.lemmas.Bool.{cases_eq}
use Rattle.std.proofs.lemmas.List.{length-map, length-set, get_or-set_same}
use Rattle.std.proofs.lemmas.Option.{get_or_from_slice_get}
use Rattle.cbs_rules.specs.Rules.{clock_end}
use Rattle.cbs_lists.specs.Lists.{changed_at}
use Rattle.cbs_lists.proofs.Lists.{changed_elsewhere}
use Rattle.cbsrun_simulate.specs.Merging.{merged, all_ordered}
use Rattle.cbsrun_simulate.specs.Releases.{IsInOrder}
use Rattle.cbsrun_simulate.specs.Turns.{turn_of, due_of, node, next_of, IsTree, SetsLeaf, HasTurns}
use Rattle.cbsrun_simulate.specs.declared.release.Release.{Release}
use Rattle.cbsrun_simulate.specs.declared.turns.Turn.{Turn}
use Rattle.cbsrun_simulate.proofs.FirstTurns.{IsFirstTurn, root_turn, turn_first, turn_next, turn_due, no_source}
use Rattle.cbsrun_simulate.proofs.Merging.{source_at, went_on, passed}

-- a release that comes soon, if one comes
comes_soon : (o : Option Release) (r : Release) → o ≡ Some r → IfSome o (λ r. r.tick < clock_end) → r.tick < clock_end
comes_soon o r e h = subst (λ o. IfSome o (λ r. r.tick < clock_end)) e h

-- a leaf that is set, and one that stays, in a tree over the same places
leaf_set : (new : List Turn) (i : ℕ) (o : Option Release) {h k j : ℕ} {p : Option Release} → h ≡ k → j ≡ i → p ≡ o → node new (h + i) ≡ turn_of i o
    → node new (k + j) ≡ turn_of j p
leaf_set new i o e same next is = rw (sym e, same, next) is

leaf_kept : (old new : List Turn) (j : ℕ) {h k m : ℕ} {p q : Option Release} → h ≡ m → h ≡ k → p ≡ q → node new (h + j) ≡ node old (h + j)
    → node old (k + j) ≡ turn_of j q → node new (m + j) ≡ turn_of j p
leaf_kept old new j e f next stays is = rw (sym e, next) (stays ∙ rw f is)

module _ {S : Type 0} (coming : S → List Release) (ordered : (it : S) → IsInOrder 0 (coming it)) (xs : List S) where
  -- the leaf of one source more is set to its turn
  pub turn_more : (n : ℕ) (old new : List Turn) (y : S) (o : Option Release) → n < length xs → y ≡ get_or xs n y → o ≡ slice_get (coming y) 0
      → IfSome o (λ r. r.tick < clock_end) → HasTurns n (map coming xs) old → SetsLeaf n (turn_of n o) old new → HasTurns (n + 1) (map coming xs) new
  turn_more n old new y o lt is e early has sets =
      let size = has.size in
      let half : length old / 2 ≡ length (map coming xs) = omega arith in
      let next : next_of (map coming xs) n ≡ o = ap (λ rs. slice_get rs 0) (source_at coming xs n y lt is) ∙ sym e in
      record {
        size = sets.size ∙ has.size;
        leaves = λ i most. elim (cases_eq i n) [
          | inl here ↦ leaf_set new n o half here (ap (next_of (map coming xs)) here ∙ next) sets.leaf
          | inr ne ↦ sets.others (length (map coming xs) + i) (omega arith) (λ e. ne (omega arith)) ∙ has.leaves i (omega arith)
        ];
        early = λ i r most some. elim (cases_eq i n) [
          | inl here ↦ comes_soon o r (sym next ∙ subst (λ k. next_of (map coming xs) k ≡ Some r) here some) early
          | inr ne ↦ has.early i r (omega arith) some
        ];
      }

  module _ (nodes : List Turn) (tree : IsTree nodes) (has : HasTurns (length xs) (map coming xs) nodes) where
    all : HasTurns (length (map coming xs)) (map coming xs) nodes
    all = rw (length-map xs coming) has

    -- if there is no first turn, nothing comes
    pub none_first : slice_get nodes 1 ≡ None → merged (map coming xs) ≡ []
    none_first none = no_source (map coming xs) (few nodes none has.size)
      where
        few : (nodes : List Turn) {n : ℕ} → slice_get nodes 1 ≡ None → length nodes ≡ n * 2 → n ≡ 0
        few [] none size = omega arith
        few (a ∷ []) none size = omega arith
        few (a ∷ b ∷ rest) none size = cc

    module _ (turn : Turn) (some : slice_get nodes 1 ≡ Some turn) where
      -- else it is that of a source
      first_turn : IsFirstTurn (map coming xs) turn
      first_turn =
          let is : node nodes 1 ≡ turn = get_or_from_slice_get nodes 1 turn (turn_of 0 None) some in
          rw is at (root_turn (map coming xs) nodes tree all (more nodes some has.size))
        where
          more : (nodes : List Turn) {n : ℕ} → slice_get nodes 1 ≡ Some turn → length nodes ≡ n * 2 → 0 < n
          more [] some size = cc
          more (a ∷ []) some size = cc
          more (a ∷ b ∷ rest) some size = omega arith

      pub first_place : turn.place < length xs
      first_place = rw (length-map xs coming) at first_turn.within

      -- whose tick is that of the next release of all
      pub first_due : due_of turn ≡ option_map (λ r. r.tick) (slice_get (merged (map coming xs)) 0)
      first_due = turn_due (map coming xs) nodes turn all (all_ordered coming ordered xs) first_turn

      module _ (y : S) (is : y ≡ get_or xs turn.place y) where
        here : get_or (map coming xs) turn.place [] ≡ coming y
        here = source_at coming xs turn.place y first_place is

        -- whose next release is the next of all
        pub first_shows : slice_get (coming y) 0 ≡ slice_get (merged (map coming xs)) 0
        first_shows = ap (λ rs. slice_get rs 0) (sym here)
            ∙ turn_next (map coming xs) nodes turn all (all_ordered coming ordered xs) first_turn

        -- so it releases something if something comes
        pub first_releases : 0 < length (merged (map coming xs)) → 0 < length (coming y)
        first_releases some = go (coming y) (merged (map coming xs)) first_shows some
          where
            go : (rs qs : List Release) → slice_get rs 0 ≡ slice_get qs 0 → 0 < length qs → 0 < length rs
            go rs [] e some = absurd (omega arith)
            go [] (q ∷ qs) e some = cc
            go (r ∷ rs) (q ∷ qs) e some = omega arith

        module _ (z : S) (next : coming z ≡ drop 1 (coming y)) where
          -- after it come the others
          pub first_passed : 0 < length (merged (map coming xs)) → (now : List S) → now ≡ xs
              → merged (map coming (slice_set xs turn.place z)) ≡ drop 1 (merged (map coming now))
          first_passed come now same = go (coming y) refl (first_releases come)
            where
              go : (rs : List Release) → coming y ≡ rs → 0 < length rs → merged (map coming (slice_set xs turn.place z)) ≡ drop 1 (merged (map coming now))
              go [] e some = absurd (omega arith)
              go (r ∷ rs) e some =
                  let head : next_of (map coming xs) turn.place ≡ Some r = ap (λ rs. slice_get rs 0) (here ∙ e) in
                  passed coming xs now turn.place r y z same first_place
                  (turn_first (map coming xs) nodes turn all (all_ordered coming ordered xs) first_turn r head) is next

          -- and its leaf is set to its new turn
          pub first_set : (new : List Turn) (o : Option Release) → o ≡ slice_get (coming z) 0 → IfSome o (λ r. r.tick < clock_end)
              → SetsLeaf turn.place (turn_of turn.place o) nodes new
              → (let now = slice_set xs turn.place z in HasTurns (length now) (map coming now) new)
          first_set new o e early sets =
              let i = turn.place in
              let rss : List (List Release) = map coming xs in
              let count : length rss ≡ length xs = length-map xs coming in
              let is_new : map coming (slice_set xs i z) ≡ changed_at (drop 1) rss i = went_on coming xs i y z first_place is next in
              let now : length (slice_set xs i z) ≡ length xs = length-set xs i z in
              let size = has.size in
              let half : length nodes / 2 ≡ length xs = omega arith in
              let all_places : length nodes / 2 ≡ length (map coming (slice_set xs i z)) = half ∙ sym now ∙ sym (length-map (slice_set xs i z) coming) in
              let z_is : z ≡ get_or (slice_set xs i z) i z = sym (get_or-set_same xs i z z first_place) in
              let head : next_of (map coming (slice_set xs i z)) i ≡ o =
              ap (λ rs. slice_get rs 0) (source_at coming (slice_set xs i z) i z (rw now first_place) z_is) ∙ sym e in
              let others : (j : ℕ) → j ≢ i → next_of (map coming (slice_set xs i z)) j ≡ next_of rss j =
              λ j ne. rw is_new (ap (λ rs. slice_get rs 0) (changed_elsewhere (drop 1) rss i j [] ne)) in
              record {
                size = sets.size ∙ has.size ∙ ap (λ n. n * 2) (count ∙ sym now ∙ sym (length-map (slice_set xs i z) coming));
                leaves = λ j lt. elim (cases_eq j i) [
                  | inl same ↦ leaf_set new i o all_places same (ap (next_of (map coming (slice_set xs i z))) same ∙ head) sets.leaf
                  | inr ne ↦ leaf_kept nodes new j all_places (half ∙ sym count) (others j ne)
                      (sets.others (length nodes / 2 + j) (omega arith) (λ e. ne (omega arith))) (has.leaves j (omega arith))
                ];
                early = λ j r lt some. elim (cases_eq j i) [
                  | inl same ↦ comes_soon o r (sym head ∙ subst (λ k. next_of (map coming (slice_set xs i z)) k ≡ Some r) same some) early
                  | inr ne ↦ has.early j r (omega arith) (sym (others j ne) ∙ some)
                ];
              }
