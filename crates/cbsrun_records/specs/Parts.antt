-- The text of a record, and its tape.
use Rattle.std.specs.Prelude.{ℕ, ◌+◌, eqb, List, drop, take, Option, Some, None}
use Rattle.std.specs.List.{position}
use Rattle.cbs_sums.specs.Blocks.{tape_after}

-- the place of the byte that ends the text, if the record has a tape
abbrev pub text_end : List ℕ → Option ℕ
text_end bytes = position (λ b. eqb b 3) bytes

-- the bytes before it
abbrev pub text_before : List ℕ → Option ℕ → List ℕ
text_before bytes None = bytes
text_before bytes (Some n) = take n bytes

abbrev pub text_of : List ℕ → List ℕ
text_of bytes = text_before bytes (text_end bytes)

-- the bytes of the tape that the blocks after it have
abbrev pub taped_after : List ℕ → Option ℕ → Option (List ℕ)
taped_after bytes None = None
taped_after bytes (Some n) = Some (tape_after (take (n + 1) bytes) (drop (n + 1) bytes))

abbrev pub tape_of : List ℕ → Option (List ℕ)
tape_of bytes = taped_after bytes (text_end bytes)
