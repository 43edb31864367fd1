-- One server more, at the left edge and among the rows.
use Rattle.std.proofs.Common.{◌≡◌, ◌∙◌, ℕ, ◌+◌, ◌*◌, ◌<◌, List, [], ◌∷◌, ◌++◌, length, take, append_assoc, arith, refl, sym, ap, Option, Result, Ok, Err}
use Rattle.std.specs.Prelude.{get_or, max, if◌then◌else◌, OnOk}
use Rattle.std.specs.Result.{is_ok}
use Rattle.std.proofs.lemmas.List.{append-nil, length-take-le, take_more}
use Rattle.cbsrun_chart.specs.declared.picture.Drawn.{Drawn}
use Rattle.cbsrun_window.specs.declared.window.Window.{Window}
use Rattle.cbsrun_svg_shapes.specs.Axes.{AxisSeen}
use Rattle.cbsrun_svg_shapes.specs.declared.layout.Layout.{Layout}
use Rattle.cbsrun_svg.specs.Pictures.{left_of, rows_text, server_row, words_width}

-- a text that was appended to another
pub pushed : {T E : Type 0} (r : Result T E) (new old more whole : List ℕ) → new ≡ (if is_ok r then old ++ more else old) → old ++ more ≡ whole
    → OnOk r (new ≡ whole)
pushed (Ok x) new old more whole is same = is ∙ same
pushed (Err e) new old more whole is same = tt

-- a text after two others, of which the second is known by another name
pub three_pieces : {T E : Type 0} (r : Result T E) (old first second new a word b c : List ℕ) → first ≡ old ++ a → second ≡ first ++ word → word ≡ b
    → OnOk r (new ≡ second ++ c) → OnOk r (new ≡ old ++ (a ++ (b ++ c)))
three_pieces (Ok x) old first second new a word b c is_first is_second is is_new =
    is_new ∙ (ap (λ t. t ++ c) (is_second ∙ (ap (λ t. first ++ t) is ∙ ap (λ t. t ++ b) is_first))
    ∙ (append_assoc (old ++ a) b c ∙ append_assoc old a (b ++ c)))
three_pieces (Err e) old first second new a word b c is_first is_second is is_new = tt

-- room for one server more
left_push : (n : Option ℕ) (k : ℕ) (ds : List Drawn) (d : Drawn) → left_of n k (ds ++ d ∷ []) ≡ max (words_width n k d) (left_of n k ds)
left_push n k [] d = refl
left_push n k (x ∷ ds) d = swapped (words_width n k x) (words_width n k d) (left_of n k ds) (left_of n k (ds ++ d ∷ [])) (left_push n k ds d)
  where
    swapped : (a b c e : ℕ) → e ≡ max b c → max a e ≡ max b (max a c)
    swapped a b c e h = omega arith

-- .. the next one of a list
pub left_next : (n : Option ℕ) (k : ℕ) (ds : List Drawn) (i : ℕ) (d : Drawn) → i < length ds
    → left_of n k (take (i + 1) ds) ≡ max (words_width n k (get_or ds i d)) (left_of n k (take i ds))
left_next n k ds i d lt = ap (left_of n k) (take_more ds i d lt) ∙ left_push n k (take i ds) (get_or ds i d)

-- one row more, below the others
rows_push : (n : Option ℕ) (a : AxisSeen) (l : Layout) (w : Window) (top : ℕ) (ds : List Drawn) (d : Drawn)
    → rows_text n a l w top (ds ++ d ∷ []) ≡ rows_text n a l w top ds ++ server_row n a l w (top + length ds * l.row) d
unfolding rows_text
rows_push n a l w top [] d =
    let same : top ≡ top + 0 * l.row = omega arith in append-nil (server_row n a l w top d) ∙ ap (λ t. server_row n a l w t d) same
rows_push n a l w top (x ∷ ds) d =
    let same : top + l.row + length ds * l.row ≡ top + length (x ∷ ds) * l.row = omega arith in
    ap (λ t. server_row n a l w top x ++ t) (rows_push n a l w (top + l.row) ds d)
    ∙ (sym (append_assoc (server_row n a l w top x) (rows_text n a l w (top + l.row) ds) (server_row n a l w (top + l.row + length ds * l.row) d))
    ∙ ap (λ t. (server_row n a l w top x ++ rows_text n a l w (top + l.row) ds) ++ server_row n a l w t d) same)

-- .. the next one of a list
pub rows_next : (n : Option ℕ) (a : AxisSeen) (l : Layout) (w : Window) (top : ℕ) (ds : List Drawn) (i : ℕ) (d : Drawn) → i < length ds
    → rows_text n a l w top (take (i + 1) ds) ≡ rows_text n a l w top (take i ds) ++ server_row n a l w (top + i * l.row) (get_or ds i d)
rows_next n a l w top ds i d lt =
    let count : length (take i ds) ≡ i = length-take-le i ds (omega arith) in
    ap (rows_text n a l w top) (take_more ds i d lt) ∙ (rows_push n a l w top (take i ds) (get_or ds i d)
    ∙ ap (λ k. rows_text n a l w top (take i ds) ++ server_row n a l w (top + k * l.row) (get_or ds i d)) count)
