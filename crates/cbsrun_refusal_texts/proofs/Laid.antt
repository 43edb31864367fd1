-- Words that are laid out one after another.
use Rattle.std.proofs.Common.{◌≡◌, ℕ, Bool, false, eqb, List, [], ◌∷◌, ◌++◌, Option, Some, None, refl, sym, ap, ◌∙◌, arith}
use Rattle.std.specs.Prelude.{MatchOption}
use Rattle.std.proofs.lemmas.Grind.{flat_map-append}
use Rattle.std.proofs.lemmas.List.{append_assoc, append-nil, map-append}
use Rattle.std.proofs.lemmas.List.Splits.{length-slice_split}
use Rattle.cbsrun_refusal_texts.specs.Pages.{PageText, Appends, words_of, spaced, IsLaid}

-- the words so far: none before the first has a column
abbrev pub LaidSoFar : ℕ → Option ℕ → List (List ℕ) → List ℕ → Type 0
LaidSoFar indent None words laid = (words ≡ []) × (laid ≡ [])
LaidSoFar indent (Some column) words laid = IsLaid indent words laid

-- unless the page has failed by then, these words were appended
abbrev pub AppendsLaid : ℕ → Option ℕ → PageText → PageText → List (List ℕ) → Type 0
AppendsLaid indent column old new words =
    new.failed ≡ false → (laid : List ℕ) × LaidSoFar indent column words laid × (old.failed ≡ false)
    × (new.text ≡ old.text ++ laid)

-- one word more
more : (indent : ℕ) (words : List (List ℕ)) (laid : List ℕ) (breaks : Bool) (word : List ℕ) → IsLaid indent words laid
    → IsLaid indent (words ++ word ∷ []) (laid ++ spaced indent (breaks, word))
more indent words laid breaks word h =
    let p : Bool × List ℕ = (breaks, word) in
    record {
      first = h.first;
      rest = h.rest ++ p ∷ [];
      are = rw (h.are, map-append (λ p. p.1) h.rest (p ∷ [])) refl;
      bytes = rw (h.bytes, flat_map-append (spaced indent) h.rest (p ∷ [])) (simp (append_assoc, append-nil));
    }

-- a word more on the page
pub laid_more : (indent : ℕ) (column : Option ℕ) (after : ℕ) (p q r : PageText) (words : List (List ℕ)) (word : List ℕ) → AppendsLaid indent column p q words
    → MatchOption column (Appends q r word) (λ _. (breaks : Bool) × Appends q r (spaced indent (breaks, word)))
    → AppendsLaid indent (Some after) p r (words ++ word ∷ [])
laid_more indent None after p q r words word so_far pushed free =
    let b = pushed free in
    let a = so_far b.0 in (
      word,
      record {
        first = word;
        rest = [];
        are = rw a.1.0 refl;
        bytes = simp append-nil;
      },
      a.2,
      b.1 ∙ (ap (λ t. t ++ word) a.3 ∙ rw a.1.1 (simp append-nil)),
    )
laid_more indent (Some column) after p q r words word so_far pushed free =
    let b = pushed.1 free in
    let a = so_far b.0 in
    let part = spaced indent (pushed.0, word) in
    (a.0 ++ part, more indent words a.0 pushed.0 word a.1, a.2, b.1 ∙ (ap (λ t. t ++ part) a.3 ∙ append_assoc p.text a.0 part))

-- all words of a text were appended: there is at least one
pub laid_all : (indent : ℕ) (column : Option ℕ) (p q : PageText) (words : List (List ℕ)) (text : List ℕ) → AppendsLaid indent column p q words
    → words ≡ words_of text
    → q.failed ≡ false → (laid : List ℕ) × IsLaid indent (words_of text) laid × (p.failed ≡ false) × (q.text ≡ p.text ++ laid)
laid_all indent None p q words text so_far all free =
    let a = so_far free in
    let n = length-slice_split (λ b. eqb b 32) text in
    let e : words_of text ≡ [] = sym all ∙ a.1.0 in
    let none = rw e at n in
    absurd (omega arith)
laid_all indent (Some column) p q words text so_far all free = let a = so_far free in (a.0, rw all at a.1, a.2, a.3)
