-- A text that grows: by one sign, of a sign for each number, or by another text.
use Rattle.std.proofs.Common.{◌≡◌, ◌∙◌, ℕ, ◌+◌, List, [], ◌∷◌, ◌++◌, map, ap, arith, sym, Result, Ok, Err}
use Rattle.std.specs.Prelude.{if◌then◌else◌, OnOk}
use Rattle.std.specs.Result.{is_ok}
use Rattle.std.specs.List.{range_with_len}
use Rattle.std.proofs.lemmas.List.FromFn.{map-range_with_len_more}
use Rattle.cbsrun_text.proofs.Texts.{grown}

-- the signs before it, and one that is written as one byte
pub sign_more : (f : ℕ → ℕ) (old text new bytes : List ℕ) (sign place : ℕ) → new ≡ text ++ bytes → bytes ≡ sign ∷ [] → sign ≡ f place
    → text ≡ old ++ map f (range_with_len 0 place) → new ≡ old ++ map f (range_with_len 0 (place + 1))
sign_more f old text new bytes sign place wrote one is so_far =
    grown text old new (map f (range_with_len 0 place)) (f place ∷ []) (wrote ∙ ap (λ t. text ++ t) (one ∙ ap (λ s. s ∷ []) is)) so_far
    ∙ ap (λ t. old ++ t) (sym (map-range_with_len_more f 0 place place (omega arith)))

-- a text that was appended to another
pub pushed : {T E : Type 0} (r : Result T E) (new old more whole : List ℕ) → new ≡ (if is_ok r then old ++ more else old) → old ++ more ≡ whole
    → OnOk r (new ≡ whole)
pushed (Ok x) new old more whole is same = is ∙ same
pushed (Err e) new old more whole is same = tt
