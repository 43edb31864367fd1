-- Blocks: bytes of a tape, with their length before them, and a sum after them. The sum is of all bytes of the file up to
-- there but for the sums: of the text, and of the lengths and the bytes of each block.
use Rattle.std.specs.Prelude.{ℕ, zero, suc, ◌+◌, ◌*◌, ◌/◌, ◌%◌, ltb, eqb, ◌&&◌, if◌then◌else◌, List, [], ◌∷◌, ◌++◌, length, take, drop, slice_index, bit_xor, Result, Ok, Err}
use Rattle.std.specs.Int.{w32, from_le_bytes, to_le_bytes}
use Rattle.cbs_sums.specs.Sums.{after, initial, sum_of}
use Rattle.cbs_sums.specs.declared.reading.Stop.{Stop}
use Rattle.cbs_sums.specs.declared.reading.Stop.TheVariants.{Cut, Wrong}

-- how many bytes of the tape a block has at most
abbrev pub most_bytes : ℕ
most_bytes = 0xFFFFFF

-- the check of the three bytes of a length: the four come to 255 by exclusive or
abbrev pub check_of : ℕ → ℕ → ℕ → ℕ
check_of low middle high = bit_xor (bit_xor (bit_xor low middle) high) 255

abbrev pub checked : ℕ → ℕ → ℕ → List ℕ
checked low middle high = low ∷ middle ∷ high ∷ check_of low middle high ∷ []

-- a length in four bytes: the lowest of its three first, and then their check
abbrev pub length_bytes : ℕ → List ℕ
length_bytes n = checked (n % 256) (n / 256 % 256) (n / 256 / 256)

-- bytes of the tape with their length before them
abbrev pub framed : List ℕ → List ℕ
framed content = length_bytes (length content) ++ content

-- the register after a block
abbrev pub register_after : ℕ → List ℕ → ℕ
register_after r content = after r (framed content)

-- a block
abbrev pub block : ℕ → List ℕ → List ℕ
block r content = framed content ++ to_le_bytes w32 (sum_of (register_after r content))

-- blocks, one after another
abbrev pub blocks : ℕ → List (List ℕ) → List ℕ
blocks r [] = []
blocks r (c ∷ cs) = block r c ++ blocks (register_after r c) cs

-- the bytes of the tape that blocks have
abbrev pub joined : List (List ℕ) → List ℕ
joined [] = []
joined (c ∷ cs) = c ++ joined cs

-- what follows of a result, if reading does not stop there
infixl 10 ◌>>=◌
abbrev pub ◌>>=◌ : {A B : Type 0} → Result A Stop → (A → Result B Stop) → Result B Stop
(Ok x) >>= f = f x
(Err e) >>= f = Err e

-- the result, with what it holds seen by a view
abbrev pub seen : {A B : Type 0} → (A → B) → Result A Stop → Result B Stop
seen view (Ok x) = Ok (view x)
seen view (Err e) = Err e

-- the length that four bytes spell. Four zeros were never written
abbrev pub length_of : ℕ → ℕ → ℕ → ℕ → Result ℕ Stop
length_of low middle high check =
    if eqb check (check_of low middle high) then Ok (low + 256 * middle + 65536 * high)
    else if eqb low 0 && eqb middle 0 && eqb high 0 && eqb check 0 then Err Cut
    else Err Wrong

-- the length at the start of the bytes
abbrev pub length_at : List ℕ → Result ℕ Stop
length_at bytes = if ltb (length bytes) 4 then Err Cut else length_of (slice_index bytes 0) (slice_index bytes 1) (slice_index bytes 2) (slice_index bytes 3)

-- so many bytes, if they are there
abbrev pub front_at : ℕ → List ℕ → Result (List ℕ) Stop
front_at n bytes = if ltb (length bytes) n then Err Cut else Ok (take n bytes)

-- the bytes after a sum, if that is the register's
abbrev pub rest_at : ℕ → List ℕ → Result (List ℕ) Stop
rest_at r bytes =
    if ltb (length bytes) 4 then Err Cut
    else if eqb (from_le_bytes w32 (take 4 bytes)) (sum_of r) then Ok (drop 4 bytes)
    else Err Wrong

-- a block that was read: its bytes of the tape, the register after it, and the bytes after it
pub record Block : Type 0 where
  pub content : List ℕ
  pub register : ℕ
  pub rest : List ℕ

-- the block at the start of the bytes
unfoldable pub block_at : ℕ → List ℕ → Result Block Stop
block_at r bytes = do
  n ← length_at bytes
  front ← front_at (n + 4) bytes
  rest ← rest_at (after r front) (drop (n + 4) bytes)
  Ok (record { content = drop 4 front; register = after r front; rest = rest })

-- what a tape has where reading stops: at a wrong block a byte that is no entry
abbrev pub stopped : Stop → List ℕ
stopped Cut = []
stopped Wrong = 8 ∷ []

-- the bytes of the tape that blocks have, by at most n of them
unfoldable pub tape_in : ℕ → ℕ → List ℕ → List ℕ
tape_in zero r bytes = []
tape_in (suc n) r bytes = elim (block_at r bytes) [ Ok b ↦ b.content ++ tape_in n b.register b.rest | Err stop ↦ stopped stop ]

-- the bytes of the tape that blocks have after these bytes of a file: each block takes a byte or more
abbrev pub tape_after : List ℕ → List ℕ → List ℕ
tape_after before bytes = tape_in (length bytes) (after initial before) bytes

-- the register after blocks
abbrev pub register_of : ℕ → List (List ℕ) → ℕ
register_of r [] = r
register_of r (c ∷ cs) = register_of (register_after r c) cs

-- a block that was written with some bytes of the tape, and has as many others now
abbrev pub changed_block : ℕ → List ℕ → List ℕ → List ℕ
changed_block r had has = length_bytes (length had) ++ has ++ to_le_bytes w32 (sum_of (register_after r had))
