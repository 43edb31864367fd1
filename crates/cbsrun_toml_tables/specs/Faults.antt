-- The numbers, names and places of a file's faults.
use Rattle.std.specs.Prelude.{ℕ, List, ◌++◌, codes, decimal}
use Rattle.cbsrun_toml_tables.specs.declared.fault.FileKind.{FileKind}
use Rattle.cbsrun_toml_tables.specs.declared.fault.FileKind.TheVariants.{NotToml, UnknownKey, MissingKey, WrongType, OutOfRange, NotAdmitted, OutOfMemory}
use Rattle.cbsrun_toml_tables.specs.declared.fault.Place.{Place}
use Rattle.cbsrun_toml_tables.specs.declared.fault.Place.TheVariants.{Top, Server, Step, Source}

-- the number of each kind of fault
abbrev pub file_kind_number : FileKind → ℕ
file_kind_number NotToml = 1
file_kind_number UnknownKey = 2
file_kind_number MissingKey = 3
file_kind_number WrongType = 4
file_kind_number OutOfRange = 5
file_kind_number NotAdmitted = 6
file_kind_number OutOfMemory = 7

-- the name of each kind of fault
abbrev pub file_kind_name : FileKind → List ℕ
file_kind_name NotToml = codes "NotToml"
file_kind_name UnknownKey = codes "UnknownKey"
file_kind_name MissingKey = codes "MissingKey"
file_kind_name WrongType = codes "WrongType"
file_kind_name OutOfRange = codes "OutOfRange"
file_kind_name NotAdmitted = codes "NotAdmitted"
file_kind_name OutOfMemory = codes "OutOfMemory"

-- a place as it is written: the top table, or the entry with this number of `server`, `step` or `source`
abbrev pub place_text : Place → List ℕ
place_text Top = codes "top"
place_text (Server i) = codes "server " ++ decimal i
place_text (Step i) = codes "step " ++ decimal i
place_text (Source i) = codes "source " ++ decimal i
