-- A line of a document: a pair, or a header in double brackets.
use Rattle.std.proofs.Common.{◌≡◌, ℕ, true, false, ◌==◌, List, [], ◌∷◌, Some, None, refl, ◌∙◌}
use Rattle.std.specs.Prelude.{drop, slice_index}
use Rattle.toml_parser.specs.Lexical.{first, skip_ws}
use Rattle.toml_parser.specs.Strings.{Key, key}
use Rattle.toml.specs.Data.{Data}
use Rattle.toml.specs.Tables.{Nodes, key_value, array_table, put, along_header, define, Document}
use Rattle.toml.specs.Parse.{key_equals, val, header_key, expression, line, ends_line}
use Rattle.cbsrun_toml.specs.Reading.{IsPlace}

-- a line of a pair, which ends after its value
pub line_pair : (start at_value after : List ℕ) (key : Key) (d : Data) → (first start == 91) ≡ false → key_equals start ≡ Some (key, at_value)
    → val 80 at_value ≡ Some (d, after)
    → ends_line (skip_ws after) ≡ true → line start ≡ Some ((key, key_value d), after)
unfolding line expression
line_pair start at_value after key d other k v end = rw (other, k, v, end)

-- one that goes on after its value is refused
pub line_no_end : (start at_value after : List ℕ) (key : Key) (d : Data) → (first start == 91) ≡ false → key_equals start ≡ Some (key, at_value)
    → val 80 at_value ≡ Some (d, after)
    → ends_line (skip_ws after) ≡ false → line start ≡ None
unfolding line expression
line_no_end start at_value after key d other k v end = rw (other, k, v, end)

-- so is one with no key
pub line_no_key : (start : List ℕ) → (first start == 91) ≡ false → key_equals start ≡ None → line start ≡ None
unfolding line expression
line_no_key start other k = rw (other, k)

-- and one with no value
pub line_no_value : (start at_value : List ℕ) (key : Key) → (first start == 91) ≡ false → key_equals start ≡ Some (key, at_value)
    → val 80 at_value ≡ None → line start ≡ None
unfolding line expression
line_no_value start at_value key other k v = rw (other, k, v)

-- a pair that goes into a table is defined in the document
pub define_pair : (ns new : Nodes) (key : Key) (d : Data) → put key d ns ≡ Some new → define (ns, []) (key, key_value d) ≡ Some (new, [])
unfolding define along_header
define_pair ns new key d e = rw e refl

-- one that the table refuses is refused by the document
pub define_again : (ns : Nodes) (key : Key) (d : Data) → put key d ns ≡ None → define (ns, []) (key, key_value d) ≡ None
unfolding define along_header
define_again ns key d e = rw e refl

-- two bytes are skipped one after another
drop_two : (xs : List ℕ) → drop 1 (drop 1 xs) ≡ drop 2 xs
drop_two [] = refl
drop_two (x ∷ []) = refl
drop_two (x ∷ y ∷ xs) = refl

-- the first byte after the first is the second
first_after : (xs : List ℕ) → first (drop 1 xs) ≡ slice_index xs 1
first_after [] = refl
first_after (x ∷ []) = refl
first_after (x ∷ y ∷ xs) = refl

module _ (start : List ℕ) (opens : (first start == 91) ≡ true) (again : (slice_index start 1 == 91) ≡ true) where
  -- a header with no key is refused
  pub header_no_key : key (skip_ws (drop 2 start)) ≡ None → line start ≡ None
  unfolding line expression header_key
  header_no_key none = rw (opens, again, none)

  module _ (k : Key) (closing : List ℕ) (read : key (skip_ws (drop 2 start)) ≡ Some (k, closing)) where
    pub header_open : (first closing == 93) ≡ false → line start ≡ None
    unfolding line expression header_key
    header_open other = rw (opens, again, read, other)

    module _ (closes : (first closing == 93) ≡ true) where
      pub header_half_open : (slice_index closing 1 == 93) ≡ false → line start ≡ None
      unfolding line expression header_key
      header_half_open other = rw (opens, again, read, closes, first_after closing, other)

      module _ (twice : (slice_index closing 1 == 93) ≡ true) where
        pub header_no_end : ends_line (skip_ws (drop 2 closing)) ≡ false → line start ≡ None
        unfolding line expression header_key
        header_no_end end = rw (opens, again, read, closes, first_after closing, twice, drop_two closing, end)

        pub header_line : ends_line (skip_ws (drop 2 closing)) ≡ true → line start ≡ Some ((k, array_table), drop 2 closing)
        unfolding line expression header_key
        header_line end = rw (opens, again, read, closes, first_after closing, twice, drop_two closing, end)

-- a pair goes to its place
pub pair_placed : (at : Nodes → Document) → IsPlace at → (ns new : Nodes) (k : Key) (d : Data) → put k d ns ≡ Some new
    → define (at ns) (k, key_value d) ≡ Some (at new)
pair_placed at place ns new k d e = place ns k d ∙ rw e refl

-- .. or is refused
pub pair_refused : (at : Nodes → Document) → IsPlace at → (ns : Nodes) (k : Key) (d : Data) → put k d ns ≡ None → define (at ns) (k, key_value d) ≡ None
pair_refused at place ns k d e = place ns k d ∙ rw e refl
