-- Shares and means as a report prints them, and a mean by the quotient of the sum and its remainder.
use Rattle.std.proofs.Common.{◌≡◌, ◌∙◌, ℕ, ◌+◌, ◌*◌, ◌/◌, ◌%◌, ◌<◌, ◌++◌, false, eqb, codes, decimal, append_assoc, ap, arith}
use Rattle.std.proofs.Math.Nat.{mul-add-div}
use Rattle.std.proofs.lemmas.Bool.Decides.{nat_tests}
use Rattle.std.proofs.lemmas.Nat.{div-add-mod'}
use Rattle.cbsrun_report_text.specs.Numbers.{percent_text, mean_text}
use Rattle.cbsrun_report_text.specs.Numbers.{percent_tenths, mean_tenths}

-- the tenths from the remainder
abbrev rest_tenths : ℕ → ℕ → ℕ
rest_tenths rest count = (20 * rest + count) / (2 * count)

-- the tenths from the quotient and from the remainder
tenths_are : (total count : ℕ) → 0 < count → mean_tenths total count ≡ 10 * (total / count) + rest_tenths (total % count) count
tenths_are total count h =
    let split : 20 * total + count ≡ 2 * count * (10 * (total / count)) + (20 * (total % count) + count) = omega (arith, div-add-mod' total count) in
    let some : 0 < 2 * count = omega arith in
    ap (λ n. n / (2 * count)) split ∙ mul-add-div some (10 * (total / count)) (20 * (total % count) + count)

-- the whole part and the tenths are these
pub whole_is : (total count : ℕ) → 0 < count → total / count + (20 * (total % count) + count) / (2 * count) / 10 ≡ mean_tenths total count / 10
whole_is total count h = omega (arith, tenths_are total count h)

-- the tenth of a mean, from what is left of the division
pub tenth_is : (total count : ℕ) → 0 < count → (20 * (total % count) + count) / (2 * count) % 10 ≡ mean_tenths total count % 10
tenth_is total count h = omega (arith, tenths_are total count h)

-- the pieces in which they are written
pub percent_is : (part whole : ℕ) → 0 < whole
    → decimal (percent_tenths part whole / 10) ++ (codes "." ++ (decimal (percent_tenths part whole % 10) ++ codes " %")) ≡ percent_text part whole
unfolding percent_text
percent_is part whole h = let some : eqb whole 0 ≡ false = grind (arith, nat_tests) in rw some (simp append_assoc)

-- the text of a mean: its whole part, a point and its tenth
pub mean_is : (total count : ℕ) → 0 < count → decimal (mean_tenths total count / 10) ++ (codes "." ++ decimal (mean_tenths total count % 10))
    ≡ mean_text total count
unfolding mean_text
mean_is total count h = let some : eqb count 0 ≡ false = grind (arith, nat_tests) in rw some (simp append_assoc)
