-- A table that is read pair by pair, inline or on lines of its own.
use Rattle.std.specs.Prelude.{◌≡◌, ℕ, suc, ◌+◌, ◌==◌, ◌&&◌, ◌||◌, ◌<◌, Bool, slice_index, true, false, List, [], drop, length, Some}
use Rattle.std.specs.Char.{is_ascii_digit}
use Rattle.toml.specs.Data.{Data, table}
use Rattle.toml.specs.Parse.{read_map, val, key_equals, after_element, members, ends_line, lines}
use Rattle.toml.specs.Tables.{Nodes, no_nodes, close, Document}
use Rattle.toml_parser.specs.Lexical.{space, line_feed, carriage_return, hash, first, is_ws, is_word, skip_ws, skip_blank, left_bracket, left_brace, right_brace}
use Rattle.cbsrun_toml.specs.Reading.{IsPlace, EndsPairs}
use Rattle.cbsrun_toml_plain.specs.declared.pairs.Layout.{Layout}
use Rattle.cbsrun_toml_plain.specs.declared.pairs.Layout.TheVariants.{Inline, Lines}

-- white space, a newline or a comment may begin with this byte
abbrev pub begins_trivia : ℕ → Bool
begins_trivia c = ((is_ws c || c == line_feed) || c == carriage_return) || c == hash

-- a pair with this key stands at the start of a text, and `at` is the text from its value on
pub record StartsPair (text key at : List ℕ) : Type 0 where
  pub named : key_equals text ≡ Some (([], key), at)
  pub more : (first text == right_brace) ≡ false
  pub no_header : (first text == left_bracket) ≡ false
  pub shorter : length at < length text

-- a value ends at the end of its line, or before a comment
abbrev pub EndsLine : List ℕ → Type 0
EndsLine text = ends_line (skip_ws text) ≡ true

-- a text begins with an inline table whose first pair has this key, and `at` is the text from the pair's value on
pub record OpensTable (text key at : List ℕ) : Type 0 where
  pub brace : (first text == left_brace) ≡ true
  pub pair : StartsPair (skip_blank (drop 1 text)) key at
  pub shorter : length at + 1 < length text

-- a text begins with a line of a pair with this key
pub record OpensLines (text key at : List ℕ) : Type 0 where
  pub pair : StartsPair (skip_blank text) key at
  pub shorter : length at < length text

-- the first pair of a table has this key, and `at` is the text from its value on
abbrev pub Opens : Layout → List ℕ → List ℕ → List ℕ → Type 0
Opens Inline = OpensTable
Opens Lines = OpensLines

-- after a value comes one more pair of the inline table, with this key. `at` is the text from its value on
pub record FollowsComma (text key at : List ℕ) : Type 0 where
  pub next : List ℕ
  pub element : after_element right_brace text ≡ Some next
  pub pair : StartsPair (skip_blank next) key at
  pub shorter : length at < length text

-- after a value the line ends, and one more pair comes
pub record FollowsLine (text key at : List ℕ) : Type 0 where
  pub ends : EndsLine text
  pub pair : StartsPair (skip_blank text) key at
  pub shorter : length at < length text

abbrev pub Follows : Layout → List ℕ → List ℕ → List ℕ → Type 0
Follows Inline = FollowsComma
Follows Lines = FollowsLine

-- after a value the inline table ends, and `rest` is the text after it
pub record EndsTable (text rest : List ℕ) : Type 0 where
  pub next : List ℕ
  pub element : after_element right_brace text ≡ Some next
  pub brace : (first (skip_blank next) == right_brace) ≡ true
  pub after : rest ≡ drop 1 (skip_blank next)
  pub shorter : length rest < length text

-- after a value the line ends, and no other pair comes
pub record EndsLines (text rest : List ℕ) : Type 0 where
  pub ends : EndsLine text
  pub pairs : EndsPairs text
  pub after : rest ≡ text

abbrev pub Ends : Layout → List ℕ → List ℕ → Type 0
Ends Inline = EndsTable
Ends Lines = EndsLines

-- the pairs that an inline table at the start of a text has so far, the last of which ends before `after`
pub record ReadsInline (text : List ℕ) (found : Nodes) (after : List ℕ) : Type 0 where
  pub left : ℕ
  pub room : length after < left
  pub shorter : length after < length text
  pub goes_on : (next : List ℕ) → after_element right_brace after ≡ Some next → val 79 text ≡ read_map table (members (val 78) left found next)

-- the lines of a text, up to `rest`, put these pairs to whatever place they go
abbrev pub PutsLines : List ℕ → Nodes → List ℕ → Type 0
PutsLines text found rest =
    (n : ℕ) (at : Nodes → Document) → IsPlace at → length text < n → (m : ℕ) × (length rest < m) × (lines n (at no_nodes) text ≡ lines m (at found) rest)

-- the pairs on the lines at the start of a text so far, the last of which ends before `after`
pub record ReadsLines (text : List ℕ) (found : Nodes) (after : List ℕ) : Type 0 where
  pub shorter : length after < length text
  pub goes_on : EndsLine after → PutsLines text found after

abbrev pub Reads : Layout → List ℕ → Nodes → List ℕ → Type 0
Reads Inline = ReadsInline
Reads Lines = ReadsLines

-- the table at the start of a text has these pairs, and `rest` is the text after it
abbrev pub IsTable : Layout → List ℕ → Nodes → List ℕ → Type 0
IsTable Inline text found rest = val 79 text ≡ Some (table (close found), rest)
IsTable Lines text found rest = PutsLines text found rest

-- how deep arrays and inline tables may be in an array or a table that is a value of such a table
abbrev pub under : Layout → ℕ
under Inline = 77
under Lines = 79

-- this value of such a table stands at the start of a text, and `rest` is the text after it
abbrev pub IsValue : Layout → List ℕ → Data → List ℕ → Type 0
IsValue layout text d rest = val (suc (under layout)) text ≡ Some (d, rest)

-- a number may end before this text
abbrev pub EndsNumber : List ℕ → Type 0
EndsNumber rest = (is_word (first rest) ≡ false) × ((first rest == space && is_ascii_digit (slice_index rest 1)) ≡ false)
