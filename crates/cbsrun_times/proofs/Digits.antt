-- Numbers that are parsed of digits.
use Rattle.std.proofs.Common.{◌≡◌, ◌≤◌, ◌<◌, ℕ, true, length, List, [], ◌∷◌, Result, Ok, Err, refl, arith, le-leb}
use Rattle.std.specs.Prelude.{IfSome}
use Rattle.std.specs.Char.{is_ascii_digit}
use Rattle.std.specs.List.{list_all}
use Rattle.std.specs.Result.{result_ok}
use Rattle.std.specs.Str.{all_ascii_digits}
use Rattle.std.specs.Str.Parse.{digits_value, ParsesUnsigned}
use Rattle.std.proofs.lemmas.Str.Parse.{IsNumeralModel, numerals_by_value, tells_all_ascii_digits, parse_digits, digits_value_short}
use Rattle.cbsrun_times.specs.Decimals.{number_of}

same_test : (ds : List ℕ) → list_all is_ascii_digit ds ≡ all_ascii_digits ds
same_test [] = refl
same_test (c ∷ cs) = rw (same_test cs) refl

model : IsNumeralModel (λ ds. all_ascii_digits ds ≡ true) (digits_value 10)
model = numerals_by_value (λ ds. all_ascii_digits ds ≡ true) tells_all_ascii_digits

-- the number of at most nine digits is small
digits_few : (ds : List ℕ) → list_all is_ascii_digit ds ≡ true → length ds ≤ 9 → digits_value 10 ds < 1000000000
digits_few ds are short = digits_value_short model ds 9 (rw (← same_test ds) are) short

-- at most nine digits are parsed as the number that they write
module _ {E : Type 0} where
  pub parsed_number : (ds : List ℕ) (r : Result ℕ E) → ParsesUnsigned 64 10 ds r → list_all is_ascii_digit ds ≡ true → length ds ≤ 9
      → (result_ok r ≡ number_of ds) × IfSome (result_ok r) (λ n. (n < 1000000000) × (length ds ≤ 9))
  parsed_number [] (Ok n) parses are short = absurd (omega (arith, (parse_digits model {E = E} 64 [] (Ok n) parses refl).0.0))
  parsed_number [] (Err e) parses are short = (refl, tt {0})
  parsed_number (d ∷ ds) (Ok n) parses are short =
      let gives = parse_digits model {E = E} 64 (d ∷ ds) (Ok n) parses (rw (← same_test (d ∷ ds)) are) in
      let few = digits_few (d ∷ ds) are short in
      (rw (le-leb 1 (length (d ∷ ds)) (omega arith), le-leb (length (d ∷ ds)) 9 short, are, gives.1) refl, (rw gives.1 few, short))
  parsed_number (d ∷ ds) (Err e) parses are short =
      absurd (parse_digits model {E = E} 64 (d ∷ ds) (Err e) parses (rw (← same_test (d ∷ ds)) are) (omega arith, omega (arith, digits_few (d ∷ ds) are short)))
