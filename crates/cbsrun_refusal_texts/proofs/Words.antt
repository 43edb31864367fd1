-- Words that were written, in the order of their definition.
use Rattle.std.proofs.Common.{◌≡◌, ℕ, ◌<◌, ◌++◌, false, eqb, refl, arith}
use Rattle.std.specs.Prelude.{codes, Option}
use Rattle.std.proofs.lemmas.Bool.Decides.{nat_tests}
use Rattle.cbsrun_time_texts.specs.Texts.{time_text}
use Rattle.cbsrun_refusal_texts.specs.Over.{greatest_words}

-- the words on a budget that is not 0
pub greatest_is : (tick : Option ℕ) (period budget : ℕ) → ¬ (budget ≡ 0)
    → (((codes "at period " ++ time_text tick period) ++ codes " a budget of ") ++ time_text tick budget) ++ codes " fits, and no greater one"
    ≡ greatest_words tick period budget
greatest_is tick period budget differs =
    let some : 0 < budget = omega arith in
    let fits : eqb budget 0 ≡ false = grind (arith, nat_tests) in
    rw fits refl

-- .. that is 0
pub greatest_none : (tick : Option ℕ) (period budget : ℕ) → budget ≡ 0
    → (codes "at period " ++ time_text tick period) ++ codes " no budget fits" ≡ greatest_words tick period budget
greatest_none tick period budget is = rw is refl
