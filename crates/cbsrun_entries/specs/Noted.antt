-- The faults of a file, as they are noted one after another.
use Rattle.std.specs.Prelude.{◌≡◌, ℕ, List, [], ◌∷◌, length, take, Option, Some, None}
use Rattle.cbsrun_toml_tables.specs.declared.fault.FileFault.{FileFault}
use Rattle.cbsrun_toml_tables.specs.declared.fault.FileKind.{FileKind}
use Rattle.cbsrun_toml_tables.specs.declared.fault.Place.{Place}
use Rattle.cbsrun_toml_tables.specs.Documents.{faulty}
use Rattle.cbsrun_entries.specs.declared.noted.Faults.{Faults}

-- the fault of this kind at this place, if there is one
abbrev pub told_at : Place → Option FileKind → List FileFault
told_at place None = []
told_at place (Some kind) = faulty place kind ∷ []

-- at most so many first ones of all faults are kept, and all are counted
pub record AreFaults (most : ℕ) (all : List FileFault) (faults : Faults) : Type 0 where
  pub first : faults.first.items ≡ take most all
  pub count : faults.count ≡ length all
