-- What the bytes of a tape tell, and what is left of a tape in its first bytes.
use Rattle.std.specs.Prelude.{ℕ, zero, suc, ◌-◌, ◌^◌, ltb, leb, eqb, if◌then◌else◌, List, [], ◌∷◌, length, take, drop, Result, Ok, Err}
use Rattle.std.specs.Int.{Width, w16, w32, w64, byte_len, from_le_bytes}
use Rattle.cbs_tape.specs.declared.entry.Entry.{Entry}
use Rattle.cbs_tape.specs.declared.entry.Entry.TheVariants.{Accepted, Units, Advanced, Charged, Closed}
use Rattle.cbs_tape.specs.declared.entry.Ending.{Ending}
use Rattle.cbs_tape.specs.declared.entry.Ending.TheVariants.{Marked, Cut, Unknown}
use Rattle.cbs_tape.specs.Spelling.{entry, spelling}

-- what follows of a result, if the tape does not end there
infixl 10 ◌>>=◌
abbrev pub ◌>>=◌ : {A B : Type 0} → Result A Ending → (A → Result B Ending) → Result B Ending
(Ok x) >>= f = f x
(Err e) >>= f = Err e

-- the result, with what it holds seen by a view
abbrev pub seen : {A B : Type 0} → (A → B) → Result A Ending → Result B Ending
seen view (Ok x) = Ok (view x)
seen view (Err e) = Err e

-- a number in so many bytes, the lowest first, and the bytes after it
abbrev pub le_at : Width → List ℕ → Result (ℕ × List ℕ) Ending
le_at w bytes = if ltb (length bytes) (byte_len w) then Err Cut else Ok (from_le_bytes w (take (byte_len w) bytes), drop (byte_len w) bytes)

-- a number, and the bytes after it
abbrev pub number_at : List ℕ → Result (ℕ × List ℕ) Ending
number_at [] = Err Cut
number_at (b ∷ bytes) =
    if ltb b 253 then Ok (b, bytes)
    else if eqb b 253 then le_at w16 bytes
    else if eqb b 254 then le_at w32 bytes
    else le_at w64 bytes

-- the server of a close, and the bytes after it
abbrev pub server_at : List ℕ → Result (ℕ × List ℕ) Ending
server_at [] = Err Cut
server_at (s ∷ bytes) = if ltb s 64 then Ok (s, bytes) else Err Unknown

-- a row of units, whose number is there, and the bytes after it
abbrev pub row_at : List ℕ → Result (Entry × List ℕ) Ending
row_at bytes = number_at bytes >>= λ n. if eqb n.0 0 then Err Unknown else Ok (Units n.0, n.1)

-- a job of server s, whose units are there, and the bytes after it
abbrev pub job_at : ℕ → List ℕ → Result (Entry × List ℕ) Ending
job_at s bytes = number_at bytes >>= λ n. if ltb n.0 (2 ^ 32) then Ok (Accepted s n.0, n.1) else Err Unknown

-- an entry whose first byte, below 64, is b, and the bytes after it
unfoldable pub plain_at : ℕ → List ℕ → Result (Entry × List ℕ) Ending
plain_at b bytes =
    if eqb b 0 then Err Cut
    else if eqb b 1 then row_at bytes
    else if eqb b 2 then (number_at bytes >>= λ n. Ok (Advanced n.0, n.1))
    else if eqb b 3 then (server_at bytes >>= λ s. Ok (Closed s.0, s.1))
    else if eqb b 4 then Err Marked
    else Err Unknown

-- an entry, and the bytes after it; or how the tape ends here
unfoldable pub entry_at : List ℕ → Result (Entry × List ℕ) Ending
entry_at [] = Err Cut
entry_at (b ∷ bytes) =
    if ltb b 64 then plain_at b bytes
    else if ltb b 128 then job_at (b - 64) bytes
    else if ltb b 192 then (number_at bytes >>= λ n. Ok (Charged (b - 128) n.0, n.1))
    else Ok (Units (b - 191), bytes)

-- the entries of a tape, and how it ends after them
pub record Told : Type 0 where
  pub entries : List Entry
  pub ending : Ending

-- one entry before the others
abbrev pub with_entry : Entry → Told → Told
with_entry e t = record { entries = e ∷ t.entries; ending = t.ending }

-- what the bytes tell, by at most n entries
unfoldable pub told_in : ℕ → List ℕ → Told
told_in zero bytes = record { entries = []; ending = Cut }
told_in (suc n) bytes = elim (entry_at bytes) [ Ok x ↦ with_entry x.0 (told_in n x.1) | Err e ↦ record { entries = []; ending = e } ]

-- what the bytes tell: each entry takes a byte or more, so there are no more of them
abbrev pub told : List ℕ → Told
told bytes = told_in (length bytes) bytes

-- the entries whose bytes are all among the first k bytes of a tape
unfoldable pub kept : ℕ → List Entry → List Entry
kept k [] = []
kept k (e ∷ es) = if leb (length (entry e)) k then e ∷ kept (k - length (entry e)) es else []

-- how the first k bytes of a tape end: by the mark only if all bytes are there
abbrev pub ending_at : ℕ → List Entry → Ending
ending_at k es = if leb (length (spelling es)) k then Marked else Cut
