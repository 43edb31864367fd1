-- Lists that are appended one after another.
use Rattle.std.proofs.Common.{◌≡◌, ◌∙◌, ℕ, ◌+◌, ◌<◌, List, [], ◌∷◌, ◌++◌, length, map, take, append_assoc, arith, sym, ap, Result, Ok, Err}
use Rattle.std.specs.Prelude.{get_or, if◌then◌else◌}
use Rattle.std.specs.Result.{OnOk, is_ok}
use Rattle.std.specs.declared.alloc.AllocError.{AllocError}
use Rattle.std.specs.List.{flat_map, range_with_len}
use Rattle.std.proofs.lemmas.Grind.{flat_map-append}
use Rattle.std.proofs.lemmas.List.{append-nil, map-id, take_more}
use Rattle.std.proofs.lemmas.List.FromFn.{map-range_with_len_more}

-- a list that grew by one piece, after the pieces before it
pub grown : {X : Type 0} (text old new front piece : List X) → new ≡ text ++ piece → text ≡ old ++ front → new ≡ old ++ (front ++ piece)
grown text old new front piece wrote so_far = wrote ∙ (ap (λ t. t ++ piece) so_far ∙ append_assoc old front piece)

-- the numbers below one more
range_more : (n : ℕ) → range_with_len 0 (n + 1) ≡ range_with_len 0 n ++ n ∷ []
range_more n =
    sym (map-id (range_with_len 0 (n + 1))) ∙ (map-range_with_len_more (λ (k : ℕ). k) 0 n n (omega arith)
    ∙ ap (λ ns. ns ++ n ∷ []) (map-id (range_with_len 0 n)))

-- one piece more, of a piece for each number
pub piece_more : {X : Type 0} (f : ℕ → List X) (text old new : List X) (n : ℕ) → new ≡ text ++ f n → text ≡ old ++ flat_map f (range_with_len 0 n)
    → new ≡ old ++ flat_map f (range_with_len 0 (n + 1))
piece_more f text old new n wrote so_far =
    grown text old new (flat_map f (range_with_len 0 n)) (f n) wrote so_far
    ∙ ap (λ t. old ++ t) (sym (ap (flat_map f) (range_more n) ∙ (flat_map-append f (range_with_len 0 n) (n ∷ [])
    ∙ ap (λ t. flat_map f (range_with_len 0 n) ++ t) (append-nil (f n)))))

-- .. of a piece for each item of a list
pub piece_taken : {X Y : Type 0} (f : X → List Y) (text old new : List Y) (xs : List X) (i : ℕ) (d : X) → i < length xs → new ≡ text ++ f (get_or xs i d)
    → text ≡ old ++ flat_map f (take i xs) → new ≡ old ++ flat_map f (take (i + 1) xs)
piece_taken f text old new xs i d lt wrote so_far =
    let x = get_or xs i d in
    grown text old new (flat_map f (take i xs)) (f x) wrote so_far
    ∙ ap (λ t. old ++ t) (sym (ap (flat_map f) (take_more xs i d lt) ∙ (flat_map-append f (take i xs) (x ∷ [])
    ∙ ap (λ t. flat_map f (take i xs) ++ t) (append-nil (f x)))))

-- one value more, of a value for each number
pub value_more : {X : Type 0} (f : ℕ → X) (text old new : List X) (x : X) (n : ℕ) → new ≡ text ++ x ∷ [] → x ≡ f n
    → text ≡ old ++ map f (range_with_len 0 n) → new ≡ old ++ map f (range_with_len 0 (n + 1))
value_more f text old new x n wrote is so_far =
    grown text old new (map f (range_with_len 0 n)) (f n ∷ []) (wrote ∙ ap (λ y. text ++ y ∷ []) is) so_far
    ∙ ap (λ t. old ++ t) (sym (map-range_with_len_more f 0 n n (omega arith)))

-- a text after two pieces
pub two_pieces : (r : Result (Unit {0}) AllocError) (old between new a b word : List ℕ) → between ≡ old ++ a
    → new ≡ (if is_ok r then between ++ word else between) → word ≡ b → OnOk r (new ≡ old ++ (a ++ b))
two_pieces (Ok x) old between new a b word first second is =
    second ∙ (ap (λ t. between ++ t) is ∙ (ap (λ t. t ++ b) first ∙ append_assoc old a b))
two_pieces (Err x) old between new a b word first second is = tt

-- a text after two others
pub three_pieces : (r : Result (Unit {0}) AllocError) (old first second new a b word : List ℕ) → first ≡ old ++ a → second ≡ first ++ b
    → new ≡ (if is_ok r then second ++ word else second) → OnOk r (new ≡ old ++ (a ++ (b ++ word)))
three_pieces (Ok x) old first second new a b word is_first is_second is =
    is ∙ (ap (λ t. t ++ word) (is_second ∙ ap (λ t. t ++ b) is_first) ∙ (append_assoc (old ++ a) b word ∙ append_assoc old a (b ++ word)))
three_pieces (Err x) old first second new a b word is_first is_second is = tt
