-- The digits of a part, place by place.
use Rattle.std.proofs.Common.{◌≡◌, ◌≢◌, ◌<◌, ◌+◌, ◌++◌, ◌/◌, ◌%◌, ℕ, ne_eqb, List, [], ◌∷◌, drop, get_or, length, decimal, refl, ap, ◌∙◌}
use Rattle.std.proofs.lemmas.List.{drop_more}
use Rattle.cbsrun_time_texts.specs.Texts.{part_digits}

-- nothing is left to write of 0
pub no_digits : (places : List ℕ) (part : ℕ) → part ≡ 0 → part_digits places part ≡ []
unfolding part_digits
no_digits [] part is = refl
no_digits (place ∷ more) part is = rw is refl

-- one more digit
one_digit : (place : ℕ) (more : List ℕ) (part : ℕ) → part ≢ 0 → part_digits (place ∷ more) part ≡ decimal (part / place) ++ part_digits more (part % place)
unfolding part_digits
one_digit place more part some = rw (ne_eqb part 0 some) refl

-- one more digit of the places that are left
pub digit_at : (places : List ℕ) (i part : ℕ) → i < length places → part ≢ 0
    → part_digits (drop i places) part ≡ decimal (part / get_or places i 0) ++ part_digits (drop (i + 1) places) (part % get_or places i 0)
digit_at places i part inside some = ap (λ ps. part_digits ps part) (drop_more places i 0 inside) ∙ one_digit (get_or places i 0) (drop (i + 1) places) part some

-- no place is left
pub no_places : (part : ℕ) → part_digits [] part ≡ []
unfolding part_digits
no_places part = refl
