-- The first release of several sources, by the first turn.
use Rattle.std.proofs.Common.{◌≡◌, ◌≢◌, ℕ, zero, suc, ◌+◌, ◌/◌, ◌≤◌, ◌<◌, true, ltb, List, [], ◌∷◌, length, get_or, refl, subst, ◌∙◌, ap, arith, inl, inr}
use Rattle.std.proofs.Common.{Option, Some, None}
use Rattle.std.specs.Option.{option_map}
use Rattle.std.specs.Prelude.{slice_get}
use Rattle.std.specs.List.{AllByRecursion}
use Rattle.std.proofs.lemmas.Bool.{cases_lt}
use Rattle.std.proofs.lemmas.Bool.Decides.{nat_tests}
use Rattle.cbs_rules.specs.Rules.{clock_end}
use Rattle.cbsrun_simulate.specs.Merging.{merged, IsFirst, order_merged}
use Rattle.cbsrun_simulate.specs.Releases.{IsInOrder}
use Rattle.cbsrun_simulate.specs.Turns.{never, turn_of, due_of, node, next_of, IsTree, HasTurns}
use Rattle.cbsrun_simulate.specs.declared.release.Release.{Release}
use Rattle.cbsrun_simulate.specs.declared.turns.Turn.{Turn}
use Rattle.cbsrun_simulate.proofs.Merging.{first_here, first_there}
use Rattle.cbsrun_simulate.proofs.Trees.{IsNotAfter, root_first, of_leaf}

-- if no source releases any more, nothing comes
none_come : (rss : List (List Release)) → ((i : ℕ) (r : Release) → i < length rss → next_of rss i ≢ Some r) → merged rss ≡ []
none_come [] none = refl
none_come ([] ∷ rss) none = none_come rss (λ i r lt. none (suc i) r (omega arith))
none_come ((r ∷ rs) ∷ rss) none = absurd (none 0 r (omega arith) refl)

-- there is no source at a place past the last
beyond : (rss : List (List Release)) (j : ℕ) → length rss ≤ j → get_or rss j [] ≡ []
beyond [] j ge = refl
beyond (rs ∷ rss) zero ge = absurd (omega arith)
beyond (rs ∷ rss) (suc j) ge = beyond rss j (omega arith)

-- releases that come in order, the first of them at a tick or later
from_first : (t : ℕ) (rs : List Release) → IsInOrder 0 rs → ((r : Release) → slice_get rs 0 ≡ Some r → t ≤ r.tick) → IsInOrder t rs
from_first t [] order later = tt
from_first t (r ∷ rs) order later = (later r refl, order.1)

-- the same for the releases of all sources
all_from : (t : ℕ) (rss : List (List Release)) → AllByRecursion (IsInOrder 0) rss
    → ((i : ℕ) (r : Release) → slice_get (get_or rss i []) 0 ≡ Some r → t ≤ r.tick)
    → AllByRecursion (IsInOrder t) rss
all_from t [] each later = tt
all_from t (rs ∷ rss) each later = (from_first t rs each.0 (later 0), all_from t rss each.1 (λ i. later (suc i)))

-- the first release of source i is the first of all, if no other comes earlier, nor at the same tick from a lower place
pub first_least : (rss : List (List Release)) (i : ℕ) (r : Release) → AllByRecursion (IsInOrder 0) rss → i < length rss → slice_get (get_or rss i []) 0 ≡ Some r
    → ((j : ℕ) (q : Release) → slice_get (get_or rss j []) 0 ≡ Some q → (r.tick ≤ q.tick) × (j < i → r.tick < q.tick)) → IsFirst rss i r
first_least [] i r each lt head least = absurd (omega arith)
first_least ([] ∷ rss) zero r each lt head least = cc
first_least ((q ∷ qs) ∷ rss) zero r each lt head least =
    let same : q ≡ r = cc in
    let others : IsInOrder q.tick (merged rss) = rw same (order_merged r.tick rss (all_from r.tick rss each.1 (λ j p e. (least (suc j) p e).0))) in
    subst (λ p. IsFirst ((q ∷ qs) ∷ rss) 0 p) same (first_here q qs rss each.0 others)
first_least (rs ∷ rss) (suc i) r each lt head least =
    let rest = first_least rss i r each.1 (omega arith) head (λ j q e. ((least (suc j) q e).0, λ sooner. (least (suc j) q e).1 (omega arith))) in
    first_there rs rss i r rest (from_first (r.tick + 1) rs each.0 (λ q e. let later = (least 0 q e).1 (omega arith) in omega arith))

-- the place of a turn
turn_place : (i : ℕ) (o : Option Release) → (turn_of i o).place ≡ i
turn_place i None = refl
turn_place i (Some r) = refl

-- the tick of a turn, which is that of the release that it is of
due_is : (i : ℕ) (o : Option Release) → ((r : Release) → o ≡ Some r → r.tick < clock_end) → due_of (turn_of i o) ≡ option_map (λ r. r.tick) o
due_is i None early = refl
due_is i (Some r) early =
    let soon = early r refl in
    let is : ltb r.tick never ≡ true = grind (arith, nat_tests) in
    rw is refl

-- a turn, that of its source, is the first of all turns
pub record IsFirstTurn (rss : List (List Release)) (turn : Turn) : Type 0 where
  pub within : turn.place < length rss
  pub its : turn ≡ turn_of turn.place (next_of rss turn.place)
  pub before : (j : ℕ) → j < length rss → IsNotAfter turn (turn_of j (next_of rss j))

module _ (rss : List (List Release)) where
  -- the root of the tree of all turns is the first of them
  pub root_turn : (nodes : List Turn) → IsTree nodes → HasTurns (length rss) rss nodes → 0 < length rss → IsFirstTurn rss (node nodes 1)
  root_turn nodes tree has some =
      let size = has.size in
      let leaf = of_leaf nodes tree (length nodes) 1 (omega arith) (omega arith) (omega arith) in
      let half : length nodes / 2 ≡ length rss = omega arith in
      let within : leaf.leaf < length rss = let lt = leaf.within in omega arith in
      let is : node nodes 1 ≡ turn_of leaf.leaf (next_of rss leaf.leaf) = rw half at leaf.is ∙ has.leaves leaf.leaf within in
      let place : (node nodes 1).place ≡ leaf.leaf = rw is (turn_place leaf.leaf (next_of rss leaf.leaf)) in
      record {
        within = rw place within;
        its = rw place is;
        before = λ j lt. rw (has.leaves j lt) at (root_first nodes tree (length rss + j) (length rss + j) (omega arith) (omega arith) (omega arith));
      }

  module _ (nodes : List Turn) (turn : Turn) (has : HasTurns (length rss) rss nodes) (order : AllByRecursion (IsInOrder 0) rss)
      (first : IsFirstTurn rss turn) where
    -- so its release is the first of all
    pub turn_first : (r : Release) → next_of rss turn.place ≡ Some r → IsFirst rss turn.place r
    turn_first r head =
        let its : turn ≡ turn_of turn.place (Some r) = rw head at first.its in
        let tick : turn.tick ≡ r.tick = ap (λ t. t.tick) its in
        first_least rss turn.place r order first.within head (λ j q e. elim (cases_lt j (length rss)) [
          | inl lt ↦
              let h : IsNotAfter turn (turn_of j (Some q)) = rw e at (first.before j lt) in
              let le = h.tick in
              (omega arith, λ lower. let less = h.place lower in omega arith)
          | inr ge ↦ let none : slice_get (get_or rss j []) 0 ≡ None = rw (beyond rss j ge) refl in cc
        ])

    -- if its source releases nothing more, nothing comes
    turn_none : next_of rss turn.place ≡ None → merged rss ≡ []
    turn_none ended =
        let its : turn ≡ turn_of turn.place None = rw ended at first.its in
        let tick : turn.tick ≡ never = ap (λ t. t.tick) its in
        none_come rss (λ j q lt e.
        let h : IsNotAfter turn (turn_of j (Some q)) = rw e at (first.before j lt) in
        let le = h.tick in
        let early = has.early j q lt e in
        absurd (omega arith))

    -- what comes next from its source is what comes next of all
    pub turn_next : next_of rss turn.place ≡ slice_get (merged rss) 0
    turn_next = go (next_of rss turn.place) refl
      where
        go : (o : Option Release) → next_of rss turn.place ≡ o → next_of rss turn.place ≡ slice_get (merged rss) 0
        go None e = e ∙ rw (turn_none e) refl
        go (Some r) e = e ∙ rw (turn_first r e).first refl

    -- and its tick is that of what comes next of all
    pub turn_due : due_of turn ≡ option_map (λ r. r.tick) (slice_get (merged rss) 0)
    turn_due = ap due_of first.its ∙ due_is turn.place (next_of rss turn.place) (λ r. has.early turn.place r first.within)
        ∙ ap (option_map (λ r. r.tick)) turn_next

-- with no source nothing comes
pub no_source : (rss : List (List Release)) → length rss ≡ 0 → merged rss ≡ []
no_source [] none = refl
no_source (rs ∷ rss) none = absurd (omega arith)
