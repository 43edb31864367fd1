-- The top table of a TOML document, and faults with their places.
use Rattle.std.specs.Prelude.{ℕ, ◌+◌, Bool, is_some, if◌then◌else◌, List, [], ◌∷◌, Option, Some, None, Result, Ok, Err}
use Rattle.std.specs.Str.{is_utf8}
use Rattle.toml.specs.Data.{Data, Members, get_member}
use Rattle.toml.specs.Parse.{parse_document}
use Rattle.cbsrun_toml_tables.specs.declared.fault.FileKind.{FileKind}
use Rattle.cbsrun_toml_tables.specs.declared.fault.FileKind.TheVariants.{NotToml, OutOfMemory}
use Rattle.cbsrun_toml_tables.specs.declared.fault.FileFault.{FileFault}
use Rattle.cbsrun_toml_tables.specs.declared.fault.Place.{Place}
use Rattle.cbsrun_toml_tables.specs.declared.fault.Place.TheVariants.{Top, Server}
use Rattle.cbsrun_toml_tables.specs.Fields.{◌>>=◌, seen}

-- the fault that memory ran out while reading
abbrev pub no_memory : FileFault
no_memory = record { kind = OutOfMemory; place = Top }

-- the fault of this kind at this place. The place of out of memory is always the top
abbrev pub faulty : Place → FileKind → FileFault
faulty place OutOfMemory = no_memory
faulty place kind = record { kind = kind; place = place }

-- a result with this place for its fault
abbrev pub at : {A : Type 0} → Place → Result A FileKind → Result A FileFault
at place (Ok x) = Ok x
at place (Err kind) = Err (faulty place kind)

-- the members of the document's top table, or the fault that there is no document
abbrev pub or_not_toml : Option Members → Result Members FileKind
or_not_toml (Some table) = Ok table
or_not_toml None = Err NotToml

-- the top table, if the bytes are UTF-8 and TOML
abbrev pub document : List ℕ → Result Members FileKind
document bytes = if is_utf8 bytes then or_not_toml (parse_document bytes) else Err NotToml

-- whether the top table has a key
abbrev pub has_key : List ℕ → List ℕ → Result Bool FileFault
has_key key bytes = seen (λ table. is_some (get_member key table)) (at Top (document bytes))

-- what the entries of `server`, of which the first is server i, make of something, one after another; or the first
-- fault
unfoldable pub taken_in : {S : Type 0} → (S → Data → Result S FileKind) → ℕ → S → List Data → Result S FileFault
taken_in take i so_far [] = Ok so_far
taken_in take i so_far (entry ∷ entries) = do
  next ← at (Server i) (take so_far entry)
  taken_in take (i + 1) next entries
