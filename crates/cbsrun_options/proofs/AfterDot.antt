-- What stands after the dot that a text begins with.
use Rattle.std.proofs.Common.{◌≡◌, ◌≢◌, ◌==◌, ◌∙◌, Bool, true, false, ℕ, List, [], ◌∷◌, Option, Some, None, option_map, refl, sym, ap, arith}
use Rattle.std.specs.Prelude.{MatchOption}
use Rattle.std.specs.Borrow.{Bor}
use Rattle.std.proofs.lemmas.Bool.Decides.{nat_tests}
use Rattle.cbsrun_options.specs.Options.{after_dot}

-- a text that begins with a dot
after_dot-at : (rest : List ℕ) → after_dot (46 ∷ rest) ≡ Some rest
after_dot-at rest = refl

-- the clause of `strip_prefix` at a dot
pub after_dot-from : (text : List ℕ) (r : Option (Bor (List ℕ)))
    → MatchOption r ((rest : List ℕ) → text ≢ 46 ∷ rest) (λ x. text ≡ 46 ∷ x.now)
    → option_map (λ s. s.now) r ≡ after_dot text
after_dot-from [] None h = refl
after_dot-from [] (Some x) h = cc
after_dot-from (c ∷ rest) None h = go (c == 46) refl
  where
    go : (t : Bool) → (c == 46) ≡ t → None ≡ after_dot (c ∷ rest)
    go true e = absurd (h rest (ap (λ n. n ∷ rest) (grind (arith, nat_tests))))
    go false e = rw e
after_dot-from (c ∷ rest) (Some x) h = sym (ap after_dot h ∙ after_dot-at x.now)
