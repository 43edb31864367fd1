-- What is appended piece by piece.
use Rattle.std.proofs.Common.{◌≡◌, ℕ, zero, suc, ◌+◌, ◌<◌, true, false, List, [], ◌∷◌, ◌++◌, length, get_or, take, map, Option, Some, None, Result, Ok, Err, String, Global, ap, refl, ◌∙◌, add-one}
use Rattle.std.specs.List.{concat}
use Rattle.std.proofs.lemmas.List.{append_assoc, append-nil, take_more, map-append}
use Rattle.std.proofs.lemmas.List.Folds.{concat-append}
use Rattle.std.specs.Prelude.{string_bytes, IfOk, MatchResult}
use Rattle.std.specs.declared.alloc.AllocError.{AllocError}
use Rattle.cbsrun_refusal_texts.specs.Pages.{PageText, Appends, AppendsA, times}

-- one piece, and then another
pub appends_more : (p q r : PageText) (x y z : List ℕ) → Appends p q x → Appends q r y → x ++ y ≡ z → Appends p r z
appends_more p q r x y z first second whole free =
    let b = second free in
    let a = first b.0 in
    (a.0, b.1 ∙ (ap (λ t. t ++ y) a.1 ∙ (append_assoc p.text x y ∙ ap (λ t. p.text ++ t) whole)))

-- .. both together
pub then : (p q r : PageText) (x y : List ℕ) → Appends p q x → Appends q r y → Appends p r (x ++ y)
then p q r x y first second = appends_more p q r x y (x ++ y) first second refl

-- the same text
pub as_text : (p q : PageText) (x y : List ℕ) → Appends p q x → x ≡ y → Appends p q y
as_text p q x y wrote same free = let a = wrote free in (a.0, a.1 ∙ ap (λ t. p.text ++ t) same)

-- a text, and then another of which something is true
pub after : (p q r : PageText) (x : List ℕ) (Says Told : List ℕ → Type 0) → Appends p q x → AppendsA Says q r → ((y : List ℕ) → Says y → Told (x ++ y))
    → AppendsA Told p r
after p q r x Says Told first second told free =
    let s = second free in
    let a = first s.2 in
    (x ++ s.0, told s.0 s.1, a.0, s.3 ∙ (ap (λ t. t ++ s.0) a.1 ∙ append_assoc p.text x s.0))

-- .. after which a text stands
pub before : (p q r : PageText) (y : List ℕ) (Says Told : List ℕ → Type 0) → AppendsA Says p q → Appends q r y → ((x : List ℕ) → Says x → Told (x ++ y))
    → AppendsA Told p r
before p q r y Says Told first second told free =
    let s = second free in
    let a = first s.0 in
    (a.0 ++ y, told a.0 a.1, a.2, s.1 ∙ (ap (λ t. t ++ y) a.3 ∙ append_assoc p.text a.0 y))

-- .. after which another stands
pub both : (p q r : PageText) (Says More Told : List ℕ → Type 0) → AppendsA Says p q → AppendsA More q r
    → ((x y : List ℕ) → Says x → More y → Told (x ++ y)) → AppendsA Told p r
both p q r Says More Told first second told free =
    let s = second free in
    let a = first s.2 in
    (a.0 ++ s.0, told a.0 s.0 a.1 s.1, a.2, s.3 ∙ (ap (λ t. t ++ s.0) a.3 ∙ append_assoc p.text a.0 s.0))

-- what was made for a page, which accepted it
pub accepted : {T : Type 0} (made : Result T AllocError) (o : Option T) (x : T) (old new : PageText) (P : T → Type 0)
    → MatchResult made (λ value. (o ≡ Some value) × (new ≡ old)) (λ _. (o ≡ None) × (new.failed ≡ true)) → o ≡ Some x → IfOk made P → P x × (new ≡ old)
accepted (Ok v) o x old new P h is p =
    let e : v ≡ x = let a = h.0 in cc in
    (rw e at p, h.1)
accepted (Err e) o x old new P h is p = let a = h.0 in absurd cc

-- the texts up to one more
pub concat_more : {X : Type 0} (f : X → List ℕ) (xs : List X) (i : ℕ) (d : X) → i < length xs
    → concat (map f (take i xs)) ++ f (get_or xs i d) ≡ concat (map f (take (i + 1) xs))
concat_more f xs i d lt =
    let x = get_or xs i d in
    rw (take_more xs i d lt, map-append f (take i xs) (x ∷ []), concat-append (map f (take i xs)) (f x ∷ [])) (simp append-nil)

-- a text once more
pub times_more : (n : ℕ) (text : List ℕ) → times n text ++ text ≡ times (n + 1) text
times_more n text = rw (add-one n) (by n)
  where
    by : (n : ℕ) → times n text ++ text ≡ text ++ times n text
    by zero = simp append-nil
    by (suc n) = append_assoc text (times n text) text ∙ ap (λ t. text ++ t) (by n)

-- what was appended to an empty page is the text
pub finished_text : (Says : List ℕ → Type 0) (old new : PageText) (made : Result (String Global) AllocError) → old.text ≡ []
    → AppendsA Says old new → IfOk made (λ text. (new.failed ≡ false) × (string_bytes text ≡ new.text)) → IfOk made (λ text. Says (string_bytes text))
finished_text Says old new (Err e) empty appended finished = tt
finished_text Says old new (Ok text) empty appended finished =
    let t = appended finished.0 in
    let e : string_bytes text ≡ t.0 = finished.1 ∙ (t.3 ∙ ap (λ x. x ++ t.0) empty) in
    rw e t.1
