-- How many servers are open.
use Rattle.std.proofs.Common.{◌≡◌, ◌↔◌, ℕ, suc, ◌+◌, ◌<◌, ◌≤◌, Bool, true, false, not, cond, List, [], ◌∷◌, length, get_or, take, refl, ap, sym, ◌∙◌, arith}
use Rattle.std.proofs.Common.{inl, inr}
use Rattle.std.specs.Prelude.{IsTrue}
use Rattle.std.specs.List.{count_by}
use Rattle.std.proofs.lemmas.Bool.{cases_eq, cases_Bool, false≢true, not-true}
use Rattle.std.proofs.lemmas.List.Sums.{sum_by-cons, count_by_more_yes, count_by_more_no}
use Rattle.cbs_job.specs.Work.{Meaning}
use Rattle.cbs_core.specs.Agreement.{Agrees, HasHistory, Follows}
use Rattle.cbs_steps.specs.Continuations.{◌⊕⊕◌}
use Rattle.cbs_steps.specs.Faces.{Face, face_at, no_face}
use Rattle.cbs_core.specs.Held.{CoreHeld, IsOpen, IsClosed}
use Rattle.cbs_steps.specs.History.{History, world_after}
use Rattle.cbs_steps.specs.Laws.{account_in}
use Rattle.cbs_steps.specs.declared.step.Step.{Step}
use Rattle.cbs_steps.proofs.Histories.{account_face, holds_on}
use Rattle.cbs_clients.specs.UntilClosed.{AllClosed, open_servers}

one_or_none : (b : Bool) → cond b 1 0 ≤ 0 → b ≡ false
one_or_none true l = absurd (omega (arith, l))
one_or_none false l = refl

-- if one is counted, some element passes: the first, or one of the rest
first_passes : (p : Face → Bool) (f : Face) (fs : List Face) (b : Bool) → p f ≡ b
    → (0 < count_by p fs → (s : ℕ) × (s < length fs) × (p (get_or fs s no_face) ≡ true))
    → 0 < cond b 1 0 + count_by p fs → (s : ℕ) × (s < length (f ∷ fs)) × (p (get_or (f ∷ fs) s no_face) ≡ true)
first_passes p f fs true e rest lt = (0, omega arith, e)
first_passes p f fs false e rest lt = let k = rest (omega (arith, lt)) in let l = k.1 in (suc k.0, omega (arith, l), k.2)

some_pass : (p : Face → Bool) (fs : List Face) → 0 < count_by p fs → (s : ℕ) × (s < length fs) × (p (get_or fs s no_face) ≡ true)
some_pass p [] lt = absurd (omega (arith, lt))
some_pass p (f ∷ fs) lt = first_passes p f fs (p f) refl (some_pass p fs) (let e = sum_by-cons (λ (f : Face). cond (p f) 1 0) f fs in omega (arith, e, lt))

no_more : (b c : Bool) → (b ≡ true → c ≡ true) → cond (not c) 1 0 ≤ cond (not b) 1 0
no_more true true h = omega arith
no_more true false h = absurd (false≢true (h refl))
no_more false true h = omega arith
no_more false false h = omega arith

open_by : (b r : Bool) (P : Type 0) → (b ≡ true → P) → (P → r ≡ true) → r ≡ false → not b ≡ true
open_by true r P f h e = absurd (false≢true (sym e ∙ h (f refl)))
open_by false r P f h e = refl

module _ {W : Type 0} (core : CoreHeld W) where
  -- if the count is above 0, some server is open
  pub some_open : 0 < open_servers core → (s : ℕ) × IsOpen core s
  some_open lt = let k = some_pass (λ f. not f.closed) core.faces lt in (k.0, record { within = k.1; unclosed = not-true (face_at core.faces k.0).closed k.2 })

  -- if every server is closed, none is open
  pub none_counted : AllClosed core → open_servers core ≡ 0
  none_counted all = elim (cases_eq (open_servers core) 0) [
    | inl e ↦ e
    | inr ne ↦ let k = some_open (omega (arith, ne)) in let closed =
        (all k.0 k.1.within).closed in let unclosed = k.1.unclosed in absurd (false≢true (sym unclosed ∙ closed))
  ]

  -- one more server is looked at
  pub counted_open : (s : ℕ) (r : Bool) → (IsTrue r ↔ IsClosed core s) → s < length core.faces → r ≡ false
      → count_by (λ (f : Face). not f.closed) (take (s + 1) core.faces) ≡ count_by (λ (f : Face). not f.closed) (take s core.faces) + 1
  counted_open s r h lt e = count_by_more_yes (λ (f : Face). not f.closed) core.faces s no_face lt
      (open_by (face_at core.faces s).closed r (IsClosed core s) (λ k. record { within = lt; closed = k }) h.1 e)

  pub counted_closed : (s : ℕ) (r : Bool) → (IsTrue r ↔ IsClosed core s) → s < length core.faces → r ≡ true
      → count_by (λ (f : Face). not f.closed) (take (s + 1) core.faces) ≡ count_by (λ (f : Face). not f.closed) (take s core.faces)
  counted_closed s r h lt e = count_by_more_no (λ (f : Face). not f.closed) core.faces s no_face lt (let k = (h.0 e).closed in rw k refl)

-- no server opens again
fewer_open : (fs gs : List Face) → length gs ≡ length fs → ((s : ℕ) → s < length fs → (get_or fs s no_face).closed ≡ true → (get_or gs s no_face).closed ≡ true)
    → count_by (λ (f : Face). not f.closed) gs ≤ count_by (λ (f : Face). not f.closed) fs
fewer_open [] [] e stay = omega arith
fewer_open [] (g ∷ gs) e stay = absurd (omega (arith, e))
fewer_open (f ∷ fs) [] e stay = absurd (omega (arith, e))
fewer_open (f ∷ fs) (g ∷ gs) e stay =
    let rest = fewer_open fs gs (omega (arith, e)) (λ s lt. stay (suc s) (omega (arith, lt))) in
    let first : cond (not g.closed) 1 0 ≤ cond (not f.closed) 1 0 = no_more f.closed g.closed (stay 0 (omega arith)) in
    omega (arith, rest, first, sum_by-cons (λ (f : Face). cond (not f.closed) 1 0) f fs, sum_by-cons (λ (f : Face). cond (not f.closed) 1 0) g gs)

-- if the same servers are closed, as many are open
pub same_open : (fs gs : List Face) → length gs ≡ length fs → ((s : ℕ) → s < length fs → (get_or gs s no_face).closed ≡ (get_or fs s no_face).closed)
    → count_by (λ (f : Face). not f.closed) gs ≡ count_by (λ (f : Face). not f.closed) fs
same_open fs gs e same =
    let fewer = fewer_open fs gs e (λ s lt c. same s lt ∙ c) in
    let more = fewer_open gs fs (sym e) (λ s lt c. sym (same s (omega (arith, lt, e))) ∙ c) in
    omega (arith, fewer, more)

module _ {W : Type 0} (work : Meaning W) where
  -- a closed server stays closed
  closed_on : (M : History W) (xs : List (Step W)) (s : ℕ) → (account_in work M s).closed ≡ true → (account_in work (M ⊕⊕ xs) s).closed ≡ true
  closed_on M xs s h = holds_on work (λ now a. a.closed ≡ true) (λ now a ready k. k) (λ now a k. k) (λ now a k. refl) (λ now a k. k) (λ now j a k. k) (λ now n a some runs k. k) M xs s h

  closed_shows : (core : CoreHeld W) (M : History W) (s : ℕ) → Agrees work core M → (face_at core.faces s).closed ≡ (account_in work M s).closed
  closed_shows core M s agrees = ap (λ fs. (face_at fs s).closed) agrees.world.shown
      ∙ ap (λ (f : Face). f.closed) (account_face work (world_after work M).accounts s)

  stays_closed : (a b : CoreHeld W) (xs : List (Step W)) → HasHistory work a → Follows work a b xs → (s : ℕ) → (face_at a.faces s).closed ≡ true
      → (face_at b.faces s).closed ≡ true
  stays_closed a b xs history follows s closed = elim (cases_Bool (face_at b.faces s).closed) [
    | inl e ↦ e
    | inr unclosed ↦ absurd (history (λ M agrees. false≢true
        (sym unclosed ∙ (closed_shows b (M ⊕⊕ xs) s (follows M agrees) ∙ closed_on M xs s (sym (closed_shows a M s agrees) ∙ closed)))))
  ]

  -- steps leave no more servers open
  pub opens_none : (a b : CoreHeld W) (xs : List (Step W)) → HasHistory work a → Follows work a b xs → length b.faces ≡ length a.faces
      → open_servers b ≤ open_servers a
  opens_none a b xs history follows count = fewer_open a.faces b.faces count (λ s lt. stays_closed a b xs history follows s)
