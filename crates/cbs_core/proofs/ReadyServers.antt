-- The list of the ready servers, as servers change.
use Rattle.std.proofs.Common.{◌≡◌, ◌≢◌, ℕ, ◌<◌, true, eqb, List, [], ◌∷◌, length, map, get_or, set, Some, None, false}
use Rattle.std.proofs.Common.{refl, sym, ◌∙◌, subst, inl, inr, arith}
use Rattle.std.proofs.lemmas.Bool.{cases_Bool}
use Rattle.std.proofs.lemmas.Bool.Decides.{nat_tests}
use Rattle.std.proofs.lemmas.List.{get_or_read, get_or-set_same, get_or-set_other}
use Rattle.cbs_rules.specs.Rules.{Terms}
use Rattle.cbs_ready.specs.declared.entries.Entry.{Entry}
use Rattle.cbs_steps.specs.Choice.{chosen_among, IsChoice}
use Rattle.cbs_steps.specs.Faces.{Face, no_face, face_at, new_face, is_ready, ready_by, ranks}
use Rattle.cbs_ready.specs.ReadyList.{listed, first_of, IsOrdered}
use Rattle.cbs_core.specs.Invariant.{ListsReady}
use Rattle.cbs_steps.proofs.Choices.{chosen_best}
use Rattle.cbs_steps.proofs.Faces.{length-ranks, rank_ready, rank_deadline, runs_by, not_ready, ready_within, new_idle}
use Rattle.cbs_ready.proofs.Ordered.{first_ahead}

-- the first of the list is the choice
pub choice_listed : (fs : List Face) (es : List Entry) → ListsReady es fs → IsChoice (ranks fs) (length fs) (first_of es)
choice_listed fs [] lists = λ r lt. rank_ready fs r ∙ not_ready (face_at fs r) (lists.each r)
choice_listed fs (e ∷ es) lists =
    let s = e.server in
    let here : listed (e ∷ es) s ≡ Some e.deadline = (let t : eqb s s ≡ true = grind (arith, nat_tests) in rw t refl) in
    let runs = runs_by (face_at fs s) e.deadline (sym (lists.each s) ∙ here) in
    let own = rank_deadline fs s ∙ runs.deadline in
    record {
      within = ready_within fs s runs.ready;
      ready = rank_ready fs s ∙ runs.ready;
      first = λ r lt on. elim (cases_Bool (eqb s r)) [
        | inl t ↦ let same : s ≡ r = grind (arith, nat_tests) in rw same (grind (arith, nat_tests))
        | inr n ↦
            let d = (face_at fs r).state.deadline in
            let ready : is_ready (face_at fs r) ≡ true = sym (rank_ready fs r) ∙ on in
            let by : ready_by (face_at fs r) ≡ Some d = rw ready refl in
            let ahead = first_ahead e es r d lists.ordered.0 (rw n at (lists.each r ∙ by)) in
            rw (own, rank_deadline fs r) (grind (arith, nat_tests))
      ];
    }

-- and so it is the chosen server
pub chosen_listed : (fs : List Face) (es : List Entry) → ListsReady es fs → first_of es ≡ chosen_among (ranks fs)
chosen_listed fs es lists = chosen_best (ranks fs) (first_of es) (rw (length-ranks fs) (choice_listed fs es lists))

-- what the list says of the chosen server, which is this one
pub record IsFirst (fs : List Face) (es : List Entry) (s : ℕ) (f : Face) : Type 0 where
  pub within : s < length fs
  pub ready : is_ready f ≡ true
  pub first : first_of es ≡ Some s

-- it stands first in the list
pub chosen_first : (fs : List Face) (es : List Entry) (s : ℕ) (f : Face) → ListsReady es fs → chosen_among (ranks fs) ≡ Some s → f ≡ get_or fs s f
    → IsFirst fs es s f
chosen_first fs es s f lists h read =
    let first = chosen_listed fs es lists ∙ h in
    let earliest = subst (λ o. IsChoice (ranks fs) (length fs) o) first (choice_listed fs es lists) in
    let here : face_at fs s ≡ f = sym (get_or_read fs s f earliest.within read no_face) in
    record { within = earliest.within; ready = rw here at (sym (rank_ready fs s) ∙ earliest.ready); first = first }

-- one server and its entry change
pub lists_set : (fs : List Face) (es es' : List Entry) (i : ℕ) (f : Face) → ListsReady es fs → i < length fs → IsOrdered es' → listed es' i ≡ ready_by f
    → ((t : ℕ) → t ≢ i → listed es' t ≡ listed es t) → ListsReady es' (set fs i f)
lists_set fs es es' i f lists lt sorted here others = record {
  ordered = sorted;
  each = λ s. elim (cases_Bool (eqb s i)) [
    | inl t ↦
        let e : s ≡ i = grind (arith, nat_tests) in
        rw (e, get_or-set_same fs i f no_face lt) here
    | inr n ↦
        let ne : s ≢ i = grind (arith, nat_tests) in
        rw (get_or-set_other fs i s f no_face ne) (others s ne ∙ lists.each s)
  ];
}

-- one server changes, but stays ready by the same deadline, or stays not ready
pub lists_same : (fs : List Face) (es : List Entry) (s : ℕ) (f g : Face) → ListsReady es fs → s < length fs → f ≡ get_or fs s f → ready_by g ≡ ready_by f
    → ListsReady es (set fs s g)
lists_same fs es s f g lists lt read same =
    let here : face_at fs s ≡ f = sym (get_or_read fs s f lt read no_face) in
    lists_set fs es es s g lists lt lists.ordered (rw here at (lists.each s) ∙ sym same) (λ t other. refl)

-- a server that waits is not ready
pub waits_unready : (f : Face) → f.state.throttled ≡ true → ready_by f ≡ None
waits_unready f t = let n : is_ready f ≡ false = grind (arith, nat_tests) in rw n refl

-- the empty list lists the ready servers among new ones
pub lists_new : (ts : List Terms) → ListsReady [] (map new_face ts)
lists_new ts = record { ordered = tt; each = λ s. rw (new_idle ts s) refl }
