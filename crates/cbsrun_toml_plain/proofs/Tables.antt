-- Tables that are read pair by pair.
use Rattle.std.proofs.Common.{◌≡◌, ℕ, ◌-◌, ◌<◌, ◌==◌, true, false, List, [], ◌∷◌, ◌++◌, length, drop, Some}
use Rattle.std.proofs.Common.{refl, ap, sym, ◌∙◌, arith, inl, inr}
use Rattle.std.proofs.lemmas.Bool.{cases_Bool}
use Rattle.std.proofs.lemmas.Bool.Decides.{nat_tests}
use Rattle.std.proofs.Math.Seq.{take-append_seam, drop-append_seam}
use Rattle.std.specs.List.{prefix_len, list_all}
use Rattle.toml_parser.specs.Lexical.{is_ws, is_bare, first, split_while, skip_ws, skip_blank}
use Rattle.toml_parser.specs.Strings.{simple_key, key_after}
use Rattle.toml_parser.proofs.LexicalLemmas.{prefix_len-run}
use Rattle.toml.specs.Data.{Data, table, string}
use Rattle.toml.specs.Parse.{read_map, val, atom, key_equals, lines}
use Rattle.toml.specs.Tables.{Nodes, no_nodes, put, close, key_value, Document}
use Rattle.toml.proofs.Turns.{val_atom, val_table, keyval_ok, members_more, members_end, lines_more}
use Rattle.cbsrun_toml.specs.Reading.{IsPlace}
use Rattle.cbsrun_toml.proofs.LineReads.{line_pair, pair_placed}
use Rattle.cbsrun_toml_plain.specs.declared.pairs.Layout.{Layout}
use Rattle.cbsrun_toml_plain.specs.declared.pairs.Layout.TheVariants.{Inline, Lines}
use Rattle.cbsrun_toml_plain.specs.Pairs.{StartsPair, EndsLine, OpensTable, OpensLines, Opens, FollowsComma, FollowsLine, Follows, EndsTable, Ends, ReadsInline}
use Rattle.cbsrun_toml_plain.specs.Pairs.{ReadsLines, Reads, IsTable, IsValue}

-- before `=` no bare key goes on
bare_stops : (u : List ℕ) → (first (skip_ws u) == 61) ≡ true → is_bare (first u) ≡ false
unfolding skip_ws
bare_stops [] equals = refl
bare_stops (c ∷ cs) equals = elim (cases_Bool (is_ws c)) [
  | inl blank ↦ grind (arith, nat_tests)
  | inr other ↦ let same : (c == 61) ≡ true = rw other at equals in grind (arith, nat_tests)
]

-- a run of bytes, and what follows it
split_run : (w u : List ℕ) → prefix_len is_bare (w ++ u) ≡ length w → split_while is_bare (w ++ u) ≡ (w, u)
split_run w u run = rw (run, take-append_seam w u, drop-append_seam w u) refl

-- a bare key up to where it stops
simple_bare : (w u : List ℕ) → list_all is_bare w ≡ true → 0 < length w → is_bare (first u) ≡ false → simple_key (w ++ u) ≡ Some (w, u)
unfolding simple_key
simple_bare [] u bare some stops = absurd (omega arith)
simple_bare (c ∷ cs) u bare some stops =
    let here : is_bare c ≡ true = grind (arith, nat_tests) in
    let quote : (c == 34) ≡ false = grind (arith, nat_tests) in
    let apostrophe : (c == 39) ≡ false = grind (arith, nat_tests) in
    let split : split_while is_bare ((c ∷ cs) ++ u) ≡ (c ∷ cs, u) = split_run (c ∷ cs) u (prefix_len-run is_bare (c ∷ cs) u bare stops) in
    rw (quote, apostrophe, here) (ap (λ p. Some p) (rw here at split))

-- a pair whose key is bare, from its key on
pub named_pair : (w u : List ℕ) → list_all is_bare w ≡ true → 0 < length w → (first (skip_ws u) == 61) ≡ true
    → key_equals (w ++ u) ≡ Some (([], w), skip_ws (drop 1 (skip_ws u)))
unfolding key_equals key_after
named_pair w u bare some equals =
    let dot : (first (skip_ws u) == 46) ≡ false = grind (arith, nat_tests) in
    rw (simple_bare w u bare some (bare_stops u equals), dot, equals) refl

-- a bare key begins with no bracket
bare_open : (w u : List ℕ) → list_all is_bare w ≡ true → 0 < length w → (first (w ++ u) == 125) ≡ false
bare_open [] u bare some = absurd (omega arith)
bare_open (c ∷ cs) u bare some = grind (arith, nat_tests)

-- nor with one of a header
bare_header : (w u : List ℕ) → list_all is_bare w ≡ true → 0 < length w → (first (w ++ u) == 91) ≡ false
bare_header [] u bare some = absurd (omega arith)
bare_header (c ∷ cs) u bare some = grind (arith, nat_tests)

-- a text that begins with a bare key and `=` begins with a pair
pub starts_pair : (s w u rest at : List ℕ) → s ≡ w ++ u → list_all is_bare w ≡ true → 0 < length w → rest ≡ skip_ws u → (first rest == 61) ≡ true
    → at ≡ skip_ws (drop 1 rest) → length at < length s → StartsPair s w at
starts_pair s w u rest at is bare some rest_is equals at_is shorter =
    let here : (first (skip_ws u) == 61) ≡ true = rw (← rest_is) equals in
    let same : skip_ws (drop 1 (skip_ws u)) ≡ at = rw (← rest_is) (sym at_is) in
    record {
      named = rw (is, ← same) (named_pair w u bare some here);
      more = rw is (bare_open w u bare some);
      no_header = rw is (bare_header w u bare some);
      shorter = shorter;
    }

-- the first pair of an inline table
first_inline : (text key at after : List ℕ) (d : Data) (ns : Nodes) → OpensTable text key at → val 78 at ≡ Some (d, after) → length after < length at
    → put ([], key) d no_nodes ≡ Some ns → ReadsInline text ns after
first_inline text key at after d ns opens read less edit =
    let no_array : (first text == 91) ≡ false = let brace = opens.brace in grind (arith, nat_tests) in
    let room = opens.shorter in
    record {
      left = length text - 1;
      room = omega arith;
      shorter = omega arith;
      goes_on = λ next element. val_table 78 text no_array opens.brace ∙ ap (read_map table)
          (members_more (val 78) (length text) no_nodes ns (drop 1 text) ([], key) d after next (omega arith) opens.pair.more
          (keyval_ok (val 78) (skip_blank (drop 1 text)) at after ([], key) d opens.pair.named read) edit element);
    }

-- one more
next_inline : (text key before at after : List ℕ) (d : Data) (ms ns : Nodes) → ReadsInline text ms before → FollowsComma before key at
    → val 78 at ≡ Some (d, after)
    → length after < length at → put ([], key) d ms ≡ Some ns → ReadsInline text ns after
next_inline text key before at after d ms ns reads follows read less edit =
    let room = reads.room in
    let shorter = reads.shorter in
    let nearer = follows.shorter in
    record {
      left = reads.left - 1;
      room = omega arith;
      shorter = omega arith;
      goes_on = λ next element. reads.goes_on follows.next follows.element ∙ ap (read_map table)
          (members_more (val 78) reads.left ms ns follows.next ([], key) d after next (omega arith) follows.pair.more
          (keyval_ok (val 78) (skip_blank follows.next) at after ([], key) d follows.pair.named read) edit element);
    }

-- the whole table
inline_read : (text after rest : List ℕ) (ns : Nodes) → ReadsInline text ns after → EndsTable after rest → val 79 text ≡ Some (table (close ns), rest)
inline_read text after rest ns reads ends =
    let room = reads.room in
    reads.goes_on ends.next ends.element ∙ ap (read_map table) (members_end (val 78) reads.left ns ends.next (omega arith) ends.brace) ∙ rw (ends.after) refl

-- a line of a pair
pair_line : (n : ℕ) (at : Nodes → Document) (ms ns : Nodes) (text key value_at after : List ℕ) (d : Data) → IsPlace at → 0 < n
    → StartsPair (skip_blank text) key value_at
    → val 80 value_at ≡ Some (d, after) → EndsLine after → put ([], key) d ms ≡ Some ns → lines n (at ms) text ≡ lines (n - 1) (at ns) after
pair_line n at ms ns text key value_at after d place some pair read ends edit =
    let shorter = pair.shorter in
    let more : (length (skip_blank text) == 0) ≡ false = grind (arith, nat_tests) in
    lines_more n (at ms) (at ns) text (([], key), key_value d) after some more
    (line_pair (skip_blank text) value_at after ([], key) d pair.no_header pair.named read ends)
    (pair_placed at place ms ns ([], key) d edit)

-- the first pair on a line
first_line : (text key at after : List ℕ) (d : Data) (ns : Nodes) → OpensLines text key at → val 80 at ≡ Some (d, after) → length after < length at
    → put ([], key) d no_nodes ≡ Some ns → ReadsLines text ns after
first_line text key at after d ns opens read less edit =
    let shorter = opens.shorter in
    record {
      shorter = omega arith;
      goes_on = λ ends n place is_place room. (
        n - 1,
        omega arith,
        pair_line n place no_nodes ns text key at after d is_place (omega arith)
            opens.pair read ends edit,
      );
    }

-- one more
next_line : (text key before at after : List ℕ) (d : Data) (ms ns : Nodes) → ReadsLines text ms before → FollowsLine before key at → val 80 at ≡ Some (d, after)
    → length after < length at → put ([], key) d ms ≡ Some ns → ReadsLines text ns after
next_line text key before at after d ms ns reads follows read less edit =
    let shorter = reads.shorter in
    let nearer = follows.shorter in
    record {
      shorter = omega arith;
      goes_on = λ ends n place is_place room.
          let (m, left, so_far) = reads.goes_on follows.ends n place is_place room in
          (m - 1, omega arith, so_far ∙ pair_line m place ms ns before key at after d is_place (omega arith) follows.pair read ends edit);
    }

-- a table by its layout: its first pair, one more, and the whole
pub first_read : (layout : Layout) (text key at after : List ℕ) (d : Data) (ns : Nodes) → Opens layout text key at → IsValue layout at d after
    → length after < length at
    → put ([], key) d no_nodes ≡ Some ns → Reads layout text ns after
first_read Inline text key at after d ns opens read less edit = first_inline text key at after d ns opens read less edit
first_read Lines text key at after d ns opens read less edit = first_line text key at after d ns opens read less edit

pub next_read : (layout : Layout) (text key before at after : List ℕ) (d : Data) (ms ns : Nodes) → Reads layout text ms before
    → Follows layout before key at → IsValue layout at d after
    → length after < length at → put ([], key) d ms ≡ Some ns → Reads layout text ns after
next_read Inline text key before at after d ms ns reads follows read less edit = next_inline text key before at after d ms ns reads follows read less edit
next_read Lines text key before at after d ms ns reads follows read less edit = next_line text key before at after d ms ns reads follows read less edit

pub table_read : (layout : Layout) (text after rest : List ℕ) (ns : Nodes) → Reads layout text ns after → Ends layout after rest → IsTable layout text ns rest
table_read Inline text after rest ns reads ends = inline_read text after rest ns reads ends
table_read Lines text after rest ns reads ends = rw (ends.after) (reads.goes_on ends.ends)

-- the text after the table is shorter than the text
pub table_shortens : (layout : Layout) (text after rest : List ℕ) (ns : Nodes) → Reads layout text ns after → Ends layout after rest → length rest < length text
table_shortens Inline text after rest ns reads ends =
    let shorter = reads.shorter in
    let less = ends.shorter in
    omega arith
table_shortens Lines text after rest ns reads ends = rw (ends.after) reads.shorter

-- a text that is a value
pub word_value : (layout : Layout) (s rest word : List ℕ) → (first s == 91) ≡ false → (first s == 123) ≡ false → atom s ≡ Some (string word, rest)
    → IsValue layout s (string word) rest
word_value Inline s rest word no_array no_table read = val_atom 78 s no_array no_table ∙ read
word_value Lines s rest word no_array no_table read = val_atom 80 s no_array no_table ∙ read
