-- One write after another.
use Rattle.std.proofs.Common.{◌≡◌, ℕ, List, [], ◌++◌, Option, Some, None, refl, sym, ap, ◌∙◌, append_assoc}
use Rattle.std.proofs.lemmas.List.{append-nil}
use Rattle.cbsrun_io.specs.Writers.{AppendsFront, AppendsAllBut}
use Rattle.std.specs.Io.KnownBytes.{Appends, Consumes, Keeps}

-- a text is appended, and then another
pub Appends-then : (a b c : Option (List ℕ)) (x y : List ℕ) → Appends a b x → Appends b c y → Appends a c (x ++ y)
Appends-then None b c x y p q = tt
Appends-then (Some xs) None c x y p q = absurd p
Appends-then (Some xs) (Some ys) None x y p q = absurd q
Appends-then (Some xs) (Some ys) (Some zs) x y p q = q ∙ rw p (append_assoc xs x y)

-- a text is read, and then another
pub Consumes-then : (a b c : Option (List ℕ)) (x y : List ℕ) → Consumes a b x → Consumes b c y → Consumes a c (x ++ y)
Consumes-then None b c x y p q = tt
Consumes-then (Some xs) None c x y p q = absurd p
Consumes-then (Some xs) (Some ys) None x y p q = absurd q
Consumes-then (Some xs) (Some ys) (Some zs) x y p q = p ∙ rw q (sym (append_assoc x y zs))

-- a call that wrote nothing
pub Appends-kept : (a b c : Option (List ℕ)) (x : List ℕ) → Appends a b x → Keeps b c → Appends a c x
Appends-kept None b c x p q = tt
Appends-kept (Some xs) None c x p q = absurd p
Appends-kept (Some xs) (Some ys) None x p q = absurd q
Appends-kept (Some xs) (Some ys) (Some zs) x p q = q ∙ p

-- nothing was written
pub Appends-nothing : (a : Option (List ℕ)) → Appends a a []
Appends-nothing None = tt
Appends-nothing (Some xs) = sym (append-nil xs)

-- ---- a text that is written part by part: all of it is written except the rest, which becomes shorter with each part
pub part_goes_on : (old mid new : Option (List ℕ)) (part more left text : List ℕ) → left ≡ part ++ more → AppendsAllBut old mid left text
    → Appends mid new part → AppendsAllBut old new more text
part_goes_on old mid new part more left text is so_far wrote =
    (so_far.0 ++ part, Appends-then old mid new so_far.0 part so_far.1 wrote, append_assoc so_far.0 part more ∙ (ap (λ t. so_far.0 ++ t) (sym is) ∙ so_far.2))

-- if only a prefix of the next part is written, a prefix of all is
pub part_ends : (old mid new : Option (List ℕ)) (part more left text : List ℕ) → left ≡ part ++ more → AppendsAllBut old mid left text
    → AppendsFront mid new part → AppendsFront old new text
part_ends old mid new part more left text is so_far (front, rest, wrote, parts) =
    let whole : left ≡ (front ++ rest) ++ more = is ∙ ap (λ t. t ++ more) parts in
    let regrouped : text ≡ (so_far.0 ++ front) ++ (rest ++ more) =
    sym so_far.2 ∙ (ap (λ t. so_far.0 ++ t) (whole ∙ append_assoc front rest more) ∙ sym (append_assoc so_far.0 front (rest ++ more))) in
    (so_far.0 ++ front, rest ++ more, Appends-then old mid new so_far.0 front so_far.1 wrote, regrouped)

-- if nothing is left, all is written
pub part_done : (old now : Option (List ℕ)) (left text : List ℕ) → left ≡ [] → AppendsAllBut old now left text → Appends old now text
part_done old now left text none so_far =
    let all : so_far.0 ≡ text = sym (append-nil so_far.0) ∙ (ap (λ t. so_far.0 ++ t) (sym none) ∙ so_far.2) in
    rw (← all) so_far.1

-- one more part at the end waits
pub waits_too : (old now : Option (List ℕ)) (waiting text part : List ℕ) → AppendsAllBut old now waiting text
    → AppendsAllBut old now (waiting ++ part) (text ++ part)
waits_too old now waiting text part so_far = (so_far.0, so_far.1, sym (append_assoc so_far.0 waiting part) ∙ ap (λ t. t ++ part) so_far.2)

-- nothing was written yet, and all waits
pub all_waits : (old : Option (List ℕ)) (text : List ℕ) → AppendsAllBut old old text text
all_waits old text = ([], Appends-nothing old, refl)

-- a prefix of a text is also a prefix of the text and more
pub front_more : (old new : Option (List ℕ)) (text part : List ℕ) → AppendsFront old new text → AppendsFront old new (text ++ part)
front_more old new text part (front, rest, wrote, parts) = (front, rest ++ part, wrote, ap (λ t. t ++ part) parts ∙ append_assoc front rest part)

-- the text that waited is written, except for its end
pub all_but_then : (old mid new : Option (List ℕ)) (waiting left text : List ℕ) → AppendsAllBut old mid waiting text → AppendsAllBut mid new left waiting
    → AppendsAllBut old new left text
all_but_then old mid new waiting left text (front, wrote, parts) (more, wrote_more, more_parts) =
    (front ++ more, Appends-then old mid new front more wrote wrote_more, append_assoc front more left ∙ (ap (λ t. front ++ t) more_parts ∙ parts))
