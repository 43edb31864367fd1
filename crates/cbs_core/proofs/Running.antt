-- What is known of the last unit determines which server runs.
use Rattle.std.proofs.Common.{◌≡◌, ◌∙◌, ℕ, Bool, true, false, eqb, arith, Option, Some, None, MatchOption, inl, inr}
use Rattle.std.proofs.lemmas.Bool.{cases_Bool}
use Rattle.std.proofs.lemmas.Bool.Decides.{nat_tests}
use Rattle.cbs_core.specs.Held.{CoreHeld, is_running, is_some_of}

-- a server that runs is the one that is known of the last unit
pub running_server : {W : Type 0} (core : CoreHeld W) (s : ℕ) → is_running core s ≡ true → (eqb core.last.advanced_to core.clock ≡ false) × (core.last.server ≡ s)
running_server core s runs = elim (cases_Bool (eqb core.last.advanced_to core.clock)) [
  | inl t ↦ let none : false ≡ true = rw t at runs in cc
  | inr f ↦ (f, let y : eqb core.last.server s ≡ true = rw f at runs in grind (arith, nat_tests))
]

-- which server runs, given for each server
pub told_runner : (runs : ℕ → Bool) (one : Option ℕ) → ((s : ℕ) → runs s ≡ is_some_of one s) → MatchOption one ((s : ℕ) → runs s ≡ false) (λ s. runs s ≡ true)
told_runner runs None same = same
told_runner runs (Some t) same = same t ∙ let e : eqb t t ≡ true = grind (arith, nat_tests) in e
