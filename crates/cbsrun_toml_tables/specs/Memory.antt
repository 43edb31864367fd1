-- The memory that a file needs as one document, in bytes, as the sum of what each of its bytes is counted for.
use Rattle.std.specs.Prelude.{ℕ, List, sum_by, ◌==◌, if◌then◌else◌, ⊤, ◌<◌, ◌≤◌, Result, Err}
use Rattle.cbsrun_toml_tables.specs.declared.fault.FileFault.{FileFault}
use Rattle.cbsrun_toml_tables.specs.declared.memory.Bounded.{Bounded}
use Rattle.cbsrun_toml_tables.specs.declared.memory.Bounded.TheVariants.{InPieces, Whole, TooLarge}
use Rattle.cbsrun_toml_tables.specs.Documents.{no_memory}

-- what a byte is counted for: a dot, [, {, =, a comma, and any other byte
abbrev pub byte_wants : ℕ → ℕ
byte_wants byte =
    if byte == 46 then 1400 else
    if byte == 91 then 750 else
    if byte == 123 then 500 else
    if byte == 61 then 700 else
    if byte == 44 then 100 else 4

-- the sum over all bytes of a file
abbrev pub memory_wanted : List ℕ → ℕ
memory_wanted bytes = sum_by byte_wants bytes

-- what was read, or its fault. A file that the bound refuses is out of memory
abbrev pub result_of : {A : Type 0} → Bounded A → Result A FileFault
result_of (InPieces read) = read
result_of (Whole read) = read
result_of TooLarge = Err no_memory

-- a document was read only within the bound, and refused only beyond it. For what was read in pieces, the bound was not
-- asked
abbrev pub IsBounded : {A : Type 0} → ℕ → List ℕ → Bounded A → Type 0
IsBounded memory bytes (InPieces read) = ⊤
IsBounded memory bytes (Whole read) = memory_wanted bytes ≤ memory
IsBounded memory bytes TooLarge = memory < memory_wanted bytes
