-- Numbers of plain digits.
use Rattle.std.proofs.Common.{◌≡◌, ℕ, pos, ◌+◌, ◌*◌, ◌/◌, ◌%◌, ◌^◌, ◌≤◌, ◌<◌, ◌==◌, true, false, List, [], ◌∷◌, ◌++◌, length, drop, Some}
use Rattle.std.proofs.Common.{refl, ap, sym, ◌∙◌, arith, inl, inr}
use Rattle.std.proofs.lemmas.Bool.{cases_Bool}
use Rattle.std.proofs.lemmas.Bool.Decides.{nat_tests}
use Rattle.std.proofs.lemmas.Fmt.{decimal_step, decimal_digit, decimal_nonempty}
use Rattle.std.proofs.lemmas.List.{length-append}
use mathlib.Core.List.{append_assoc}
use Rattle.std.specs.Fmt.{decimal}
use Rattle.std.specs.List.{list_all}
use Rattle.toml_parser.specs.Lexical.{is_word, first}
use Rattle.toml_parser.specs.Numbers.{unquoted}
use Rattle.toml_parser.specs.declared.scalar.Scalar.TheVariants.{Integer}
use Rattle.toml_writer.proofs.Scalars.{IsWord-pos, unquoted-word}
use Rattle.toml.specs.Data.{integer}
use Rattle.toml.specs.Parse.{val, atom}
use Rattle.toml.proofs.Turns.{val_atom}
use Rattle.cbsrun_toml_plain.specs.Pairs.{EndsNumber}

-- the first byte of a word
front_word : (w rest : List ℕ) → 0 < length w → list_all is_word w ≡ true → is_word (first (w ++ rest)) ≡ true
front_word [] rest some all = absurd (omega arith)
front_word (c ∷ cs) rest some all = elim (cases_Bool (is_word c)) [
  | inl here ↦ here
  | inr not ↦ let g : false ≡ true = rw not at all in cc
]

-- a text and its first byte
with_first : (s : List ℕ) → 0 < first s → s ≡ first s ∷ drop 1 s
with_first [] some = absurd (omega arith)
with_first (c ∷ cs) some = refl

-- one digit
pub one_digit : (s rest : List ℕ) (d : ℕ) → d ≤ 9 → first s ≡ 48 + d → rest ≡ drop 1 s → s ≡ decimal d ++ rest
one_digit s rest d most is after = with_first s (omega arith) ∙ rw (is, decimal_digit d (omega arith), after) refl

-- one more digit
pub more_digits : (s rest next : List ℕ) (n d : ℕ) → s ≡ decimal n ++ rest → 0 < n → n < 10 ^ 17 → d ≤ 9 → first rest ≡ 48 + d → next ≡ drop 1 rest
    → s ≡ decimal (n * 10 + d) ++ next
more_digits s rest next n d so_far some small most is after =
    let tens : (n * 10 + d) / 10 ≡ n = omega arith in
    let ones : (n * 10 + d) % 10 ≡ d = omega arith in
    let cons : rest ≡ (48 + d) ∷ next = with_first rest (omega arith) ∙ rw (is, after) refl in
    let last : decimal (n * 10 + d) ≡ decimal n ++ (48 + d) ∷ [] = decimal_step (n * 10 + d) (omega arith) (omega arith) ∙ rw (tens, ones) refl in
    so_far ∙ ap (λ t. decimal n ++ t) cons ∙ sym (ap (λ t. t ++ next) last ∙ append_assoc (decimal n) ((48 + d) ∷ []) next)

-- a number is read up to where it ends
pub number_read : (depth n : ℕ) (s rest : List ℕ) → s ≡ decimal n ++ rest → n < 10 ^ 18 → EndsNumber rest → val depth s ≡ Some (integer (pos n), rest)
unfolding atom
number_read depth n s rest is small ends =
    let word = IsWord-pos n (omega arith) in
    let whole : unquoted (decimal n ++ rest) ≡ Some (Integer (pos n), rest) =
    unquoted-word (decimal n) rest (Integer (pos n)) word.some word.all ends word.value in
    let here : is_word (first (decimal n ++ rest)) ≡ true = front_word (decimal n) rest word.some word.all in
    let no_array : (first (decimal n ++ rest) == 91) ≡ false = grind (arith, nat_tests) in
    let no_table : (first (decimal n ++ rest) == 123) ≡ false = grind (arith, nat_tests) in
    let no_quote : (first (decimal n ++ rest) == 34) ≡ false = grind (arith, nat_tests) in
    let no_apostrophe : (first (decimal n ++ rest) == 39) ≡ false = grind (arith, nat_tests) in
    rw is (val_atom depth (decimal n ++ rest) no_array no_table ∙ rw (no_quote, no_apostrophe, whole) refl)

-- a number has a digit
pub number_shortens : (n : ℕ) (s rest : List ℕ) → s ≡ decimal n ++ rest → n < 10 ^ 18 → length rest < length s
number_shortens n s rest is small =
    let some = decimal_nonempty n (omega arith) in
    let count : length s ≡ length (decimal n) + length rest = ap length is ∙ length-append (decimal n) rest in
    omega arith
