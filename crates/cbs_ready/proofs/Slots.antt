-- An entry moves to its place among others.
use Rattle.std.proofs.Common.{◌≡◌, ℕ, zero, suc, ◌+◌, ◌-◌, ◌<◌, ◌≤◌, true, false, List, [], ◌∷◌, length, drop, get_or, refl, sym, ap}
use Rattle.std.proofs.Common.{subst, inl, inr, ◌∙◌, arith}
use Rattle.std.proofs.lemmas.Bool.{cases_Bool, false≢true}
use Rattle.std.proofs.lemmas.List.{drop-drop, drop_all}
use Rattle.std.specs.List.{AllByRecursion, insert}
use Rattle.cbs_ready.specs.declared.entries.Entry.{Entry}
use Rattle.cbs_ready.specs.ReadyList.{is_ahead, entered, IsApart, IsOrdered}
use Rattle.cbs_ready.proofs.Ordered.{ahead_along}
use Rattle.cbs_lists.proofs.Lists.{AllByRecursion-get, AllByRecursion-weaker}

-- if all have left, one in the slot of the last is alone
pub alone_again : (n : ℕ) (es : List Entry) (x : Entry) → 0 < n → n ≡ length es → x ∷ drop 1 (drop (n - 1) es) ≡ entered x (drop n es)
alone_again n es x some all =
    let rest : drop 1 (drop (n - 1) es) ≡ [] = drop-drop 1 (n - 1) es ∙ drop_all (n - 1 + 1) es (omega arith) in
    rw (rest, drop_all n es (omega arith)) refl

-- in a list in order, an entry ahead of the one at a place is ahead of all from there on
pub ahead_from : (x : Entry) (es : List Entry) (n : ℕ) (d : Entry) → IsOrdered es → n < length es → is_ahead x (get_or es n d) ≡ true
    → AllByRecursion (λ e. is_ahead x e ≡ true) (drop n es)
ahead_from x [] n d sorted lt t = absurd (omega arith)
ahead_from x (e ∷ es) zero d sorted lt t =
    (t, AllByRecursion-weaker (IsApart e) (λ r. is_ahead x r ≡ true) es sorted.0 (λ r apart. ahead_along x e r t apart.ahead))
ahead_from x (e ∷ es) (suc n) d sorted lt t = ahead_from x es n d sorted.1 (omega arith) t

module _ (x d : Entry) where
  -- a place is an entry's own if the one before it, if there is one, stays before the entry
  abbrev pub IsBehind : List Entry → ℕ → Type 0
  IsBehind es zero = Unit {0}
  IsBehind es (suc n) = is_ahead x (get_or es n d) ≡ false

  -- no entry before that place comes after the new one
  none_behind : (e : Entry) (es : List Entry) (n : ℕ) → AllByRecursion (IsApart e) es → n ≤ length es → IsBehind (e ∷ es) (suc n) → is_ahead x e ≡ false
  none_behind e es zero all le here = here
  none_behind e es (suc n) all le here = elim (cases_Bool (is_ahead x e)) [
    | inl t ↦ absurd (false≢true (sym here ∙ ahead_along x e (get_or es n d) t (AllByRecursion-get (IsApart e) es n d all (omega arith)).ahead))
    | inr f ↦ f
  ]

  -- what comes after in a list does so in the rest of it
  next_behind : (e : Entry) (es : List Entry) (n : ℕ) → IsBehind (e ∷ es) (suc n) → IsBehind es n
  next_behind e es zero here = tt
  next_behind e es (suc n) here = here

  -- there it enters
  pub insert-entered : (es : List Entry) (n : ℕ) → n ≤ length es → IsOrdered es → AllByRecursion (λ e. is_ahead x e ≡ true) (drop n es) → IsBehind es n
      → insert es n x ≡ entered x es
  insert-entered [] zero le sorted behind here = refl
  insert-entered [] (suc n) le sorted behind here = absurd (omega arith)
  insert-entered (e ∷ es) zero le sorted behind here = rw behind.0 refl
  insert-entered (e ∷ es) (suc n) le sorted behind here =
      rw (none_behind e es n sorted.0 (omega arith) here) (ap (λ ts. e ∷ ts) (insert-entered es n (omega arith) sorted.1 behind (next_behind e es n here)))

  -- the place is its own if it is not ahead of the one before
  pub own_place : (es : List Entry) (place : ℕ) → 0 < place → is_ahead x (get_or es (place - 1) d) ≡ false → IsBehind es place
  own_place es place some ahead = let next : suc (place - 1) ≡ place = omega arith in subst (λ n. IsBehind es n) next ahead
