-- What is told of the faults after the first one, text by text.
use Rattle.std.proofs.Common.{◌≡◌, ◌<◌, ℕ, zero, suc, ◌+◌, ◌-◌, true, false, List, [], ◌∷◌, ◌++◌, length, take, drop, Option, Some, None, Result, Ok, Err, inl, inr, String, Global, codes, decimal, refl, sym, ap, ◌∙◌, arith}
use Rattle.std.specs.Prelude.{string_bytes, IfOk, MatchResult, unwrap_or}
use Rattle.std.specs.Borrow.{Bor}
use Rattle.std.specs.Slice.{IsGetRangeResult}
use Rattle.std.specs.declared.alloc.AllocError.{AllocError}
use Rattle.std.proofs.lemmas.Grind.{flat_map-append}
use Rattle.std.proofs.lemmas.List.{append_assoc, append-nil, length-append, length-drop, length-take}
use Rattle.cbsrun_toml_tables.specs.declared.fault.FileFault.{FileFault}
use Rattle.cbsrun_other_faults.specs.Others.{more_line, TellsEach, TellsOthers}
use Rattle.cbsrun_refusal_texts.specs.Pages.{PageText, Appends, AppendsA}
use Rattle.cbsrun_refusal_texts.proofs.Pages.{before}

-- what was made for a page, which accepted it
pub same_page : {T : Type 0} (made : Result T AllocError) (o : Option T) (x : T) (old new : PageText)
    → MatchResult made (λ value. (o ≡ Some value) × (new ≡ old)) (λ _. (o ≡ None) × (new.failed ≡ true)) → o ≡ Some x → new ≡ old
same_page (Ok v) o x old new h is = h.1
same_page (Err e) o x old new h is = let a = h.0 in absurd cc

-- the line on the others, by their number
pub more_some : (count : ℕ) → 0 < count → more_line count ≡ (codes "\nand " ++ decimal count) ++ codes " more\n"
unfolding more_line
more_some zero lt = absurd (omega (arith, lt))
more_some (suc n) lt = sym (append_assoc (codes "\nand ") (decimal (suc n)) (codes " more\n"))

pub more_none : (count : ℕ) → count ≡ 0 → more_line count ≡ []
unfolding more_line
more_none count none = rw none refl

-- no text yet
pub told_none : (p : PageText) → AppendsA (TellsEach 0) p p
told_none p free = ([], record { texts = []; for_each = refl; bytes = refl }, free, sym (append-nil p.text))

-- one text more
pub told_more : (count : ℕ) (p q r s : PageText) (piece text : List ℕ) → AppendsA (TellsEach count) p q → r ≡ q → Appends r s piece
    → piece ≡ codes "\n" ++ text → AppendsA (TellsEach (count + 1)) p s
told_more count p q r s piece text so_far same pushed whole free =
    let b = pushed free in
    let a = so_far (rw same at b.0) in
    let is : r.text ≡ q.text = ap (λ (w : PageText). w.text) same in (
      a.0 ++ piece,
      record {
        texts = a.1.texts ++ text ∷ [];
        for_each = rw (length-append a.1.texts (text ∷ [])) (ap (λ n. n + 1) a.1.for_each);
        bytes = rw (a.1.bytes, whole, flat_map-append (λ t. codes "\n" ++ t) a.1.texts (text ∷ [])) (simp (append_assoc, append-nil));
      },
      a.2,
      b.1 ∙ (ap (λ t. t ++ piece) (is ∙ a.3) ∙ append_assoc p.text a.0 piece),
    )

-- how many more there are
pub others_told : (p q r : PageText) (most n m : ℕ) (faults : List FileFault) → n ≡ length (drop 1 (take most faults)) → m ≡ length faults - most
    → AppendsA (TellsEach n) p q → Appends q r (more_line m) → AppendsA (TellsOthers most faults) p r
others_told p q r most n m faults each count told more =
    before p q r (more_line m) (TellsEach n) (TellsOthers most faults) told more
    (λ x says. record { texts = says.texts; for_each = says.for_each ∙ each; bytes = rw (says.bytes, count) refl })

-- how many are not kept
pub not_kept : (most : ℕ) (faults : List FileFault) → length faults - length (take most faults) ≡ length faults - most
not_kept most faults = rw (length-take most faults) (omega arith)

-- of no faults nothing is told
pub none_told : (most : ℕ) → TellsOthers most [] []
none_told most = record { texts = []; for_each = sym (none most); bytes = sym (more_none (0 - most) (omega arith)) }
  where
    none : (most : ℕ) → length (drop 1 (take {A = FileFault} most [])) ≡ 0
    none zero = refl
    none (suc n) = refl

-- the faults after the first one, by their number
pub after_first : (xs : List FileFault) (lent : Option (Bor (List FileFault))) (none : Bor (List FileFault)) → length none.now ≡ 0
    → IsGetRangeResult xs 1 (length xs) lent → length (unwrap_or lent none).now ≡ length (drop 1 xs)
after_first xs (Some x) none empty lent = rw (length-drop 1 xs) (omega (arith, lent.0.3))
after_first xs None none empty lent = elim lent.0 [
  | inl few ↦ rw (length-drop 1 xs) (omega (arith, empty, few))
  | inr out ↦ absurd (omega (arith, out))
]
