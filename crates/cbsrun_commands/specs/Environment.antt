-- A number as an environment variable gives it.
use Rattle.std.specs.Prelude.{ℕ, List}
use Rattle.std.specs.Str.Parse.{digits_value, without_leading_plus}

-- the text without a plus sign before it
abbrev pub digits : List ℕ → List ℕ
digits text = without_leading_plus text

-- the number that its digits spell
abbrev pub number_in : List ℕ → ℕ
number_in text = digits_value 10 (digits text)
