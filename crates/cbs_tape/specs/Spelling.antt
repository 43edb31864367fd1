-- How the entries of a tape are spelled, in bytes.
use Rattle.std.specs.Prelude.{ℕ, ◌+◌, ◌^◌, ◌<◌, ◌≤◌, ltb, leb, if◌then◌else◌, List, [], ◌∷◌, ◌++◌}
use Rattle.std.specs.Int.{w16, w32, w64, to_le_bytes}
use Rattle.cbs_tape.specs.declared.entry.Entry.{Entry}
use Rattle.cbs_tape.specs.declared.entry.Entry.TheVariants.{Accepted, Units, Advanced, Charged, Closed}

-- a number: a byte if it is below 253, else a byte that says in how many it follows, the lowest first
abbrev pub number : ℕ → List ℕ
number n =
    if ltb n 253 then n ∷ []
    else if ltb n (2 ^ 16) then 253 ∷ to_le_bytes w16 n
    else if ltb n (2 ^ 32) then 254 ∷ to_le_bytes w32 n
    else 255 ∷ to_le_bytes w64 n

-- units in a row: up to 64 are one byte
abbrev pub row : ℕ → List ℕ
row n = if leb n 64 then (191 + n) ∷ [] else 1 ∷ number n

-- an entry
abbrev pub entry : Entry → List ℕ
entry (Accepted s units) = (64 + s) ∷ number units
entry (Units n) = row n
entry (Advanced n) = 2 ∷ number n
entry (Charged s n) = (128 + s) ∷ number n
entry (Closed s) = 3 ∷ s ∷ []

-- entries one after another
abbrev pub entries : List Entry → List ℕ
entries [] = []
entries (e ∷ es) = entry e ++ entries es

-- a tape that has each step: its entries, and the mark of the end
abbrev pub spelling : List Entry → List ℕ
spelling [] = 4 ∷ []
spelling (e ∷ es) = entry e ++ spelling es

-- the entry has a spelling: its server is below 64, a row has a unit or more, and each number has its width
abbrev pub HasSpelling : Entry → Type 0
HasSpelling (Accepted s units) = (s < 64) × (units < 2 ^ 32)
HasSpelling (Units n) = (1 ≤ n) × (n < 2 ^ 64)
HasSpelling (Advanced n) = n < 2 ^ 64
HasSpelling (Charged s n) = (s < 64) × (n < 2 ^ 64)
HasSpelling (Closed s) = s < 64
