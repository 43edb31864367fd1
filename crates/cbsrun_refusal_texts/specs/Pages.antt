-- What is appended to a page, and how a note is laid out.
use Rattle.std.specs.Prelude.{◌≡◌, ℕ, zero, suc, ◌+◌, ◌-◌, max, Bool, false, eqb, if◌then◌else◌, List, [], ◌∷◌, ◌++◌, codes, length, map, flat_map, encode_utf8}
use Rattle.std.specs.Char.{is_control}
use Rattle.std.specs.Fmt.{digits}
use Rattle.std.specs.List.{slice_split}
use Rattle.std.specs.Str.{chars}

-- what is seen of a page: its text so far, and whether it has failed
pub record PageText : Type 0 where
  pub text : List ℕ
  pub failed : Bool

-- unless the page has failed by then, it had not failed before, and has exactly these bytes more
abbrev pub Appends : PageText → PageText → List ℕ → Type 0
Appends old new bytes = new.failed ≡ false → (old.failed ≡ false) × (new.text ≡ old.text ++ bytes)

-- unless the page has failed by then, it had not failed before, and has a text more of which this is true
abbrev pub AppendsA : (List ℕ → Type 0) → PageText → PageText → Type 0
AppendsA Says old new = new.failed ≡ false → (text : List ℕ) × Says text × (old.failed ≡ false) × (new.text ≡ old.text ++ text)

-- a text this many times
abbrev pub times : ℕ → List ℕ → List ℕ
times zero text = []
times (suc n) text = text ++ times n text

-- a text with blanks after it, or before it, to fill so many columns
abbrev pub left_in : ℕ → List ℕ → List ℕ
left_in width text = text ++ times (width - length text) (codes " ")

abbrev pub right_in : ℕ → List ℕ → List ℕ
right_in width text = times (width - length text) (codes " ") ++ text

-- a character as a terminal shows it: one that controls a terminal by its code, as `\u{1b}`
abbrev pub printable_character : ℕ → List ℕ
printable_character c = if is_control c then codes "\\u{" ++ digits 16 false c ++ codes "}" else encode_utf8 c

-- a text as a terminal shows it
abbrev pub printable : List ℕ → List ℕ
printable text = flat_map printable_character (chars text)

-- a bar after so many columns, with nothing beside it
abbrev pub bar : ℕ → List ℕ
bar margin = times margin (codes " ") ++ codes "|\n"

-- a line behind its gutter, below a bar, and carets below `count` of its characters, at least one
unfoldable pub marked_line : List ℕ → List ℕ → ℕ → ℕ → List ℕ
marked_line gutter line from count =
    bar (length gutter) ++ gutter ++ codes "| " ++ line ++ codes "\n" ++ times (length gutter) (codes " ") ++ codes "| " ++ times from (codes " ")
    ++ times (max count 1) (codes "^")

-- the words of a text, between its blanks
abbrev pub words_of : List ℕ → List (List ℕ)
words_of text = slice_split (λ b. eqb b 32) text

-- a word with what stands before it: a new line that is indented, or a blank
abbrev pub spaced : ℕ → Bool × List ℕ → List ℕ
spaced indent (breaks, word) = (if breaks then codes "\n" ++ times indent (codes " ") else codes " ") ++ word

-- These words, each but the first after a blank or a new line. `rest` has the others, each with whether it begins a
-- line.
pub record IsLaid (indent : ℕ) (words : List (List ℕ)) (laid : List ℕ) : Type 0 where
  pub first : List ℕ
  pub rest : List (Bool × List ℕ)
  pub are : words ≡ first ∷ map (λ p. p.1) rest
  pub bytes : laid ≡ first ++ flat_map (spaced indent) rest

-- a note or a help with the words of this text
pub record IsNote (margin : ℕ) (kind text note : List ℕ) : Type 0 where
  pub body : List ℕ
  pub laid : IsLaid (margin + length kind + 4) (words_of text) body
  pub bytes : note ≡ times margin (codes " ") ++ codes "= " ++ kind ++ codes ": " ++ body ++ codes "\n"
