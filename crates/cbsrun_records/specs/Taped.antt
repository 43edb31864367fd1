-- What the tape of a record tells.
use Rattle.std.specs.Prelude.{ℕ, Bool, ◌&&◌, leb, ltb, if◌then◌else◌, length, List, option_and_then, Option, Some, None, Result, Ok, Err}
use Rattle.cbsrun_records.specs.Parts.{tape_of}
use Rattle.cbs_rate.specs.Limits.{most_units}
use Rattle.cbs_rules.specs.Rules.{clock_end}
use Rattle.cbs_tape.specs.Reading.{Told, told}
use Rattle.cbs_tape.specs.declared.entry.Ending.{Ending}
use Rattle.cbs_tape.specs.declared.entry.Ending.TheVariants.{Cut, Unknown}
use Rattle.cbs_tape.specs.declared.entry.Entry.{Entry}
use Rattle.cbs_tape.specs.declared.entry.Entry.TheVariants.{Accepted, Units, Advanced, Charged, Closed}
use Rattle.cbsrun_toml_tables.specs.Documents.{at, faulty}
use Rattle.cbsrun_toml_tables.specs.Fields.{◌>>=◌, each_from}
use Rattle.cbsrun_toml_tables.specs.declared.fault.FileFault.{FileFault}
use Rattle.cbsrun_toml_tables.specs.declared.fault.FileKind.{FileKind}
use Rattle.cbsrun_toml_tables.specs.declared.fault.FileKind.TheVariants.{OutOfRange}
use Rattle.cbsrun_toml_tables.specs.declared.fault.Place.TheVariants.{Step}

-- a record may hold the entry: if it names a server, that is one of so many, and each number is in its range
abbrev pub is_entry_of : ℕ → Entry → Bool
is_entry_of servers (Accepted s units) = ltb s servers && leb 1 units && leb units most_units
is_entry_of servers (Units n) = leb 1 n && leb n clock_end
is_entry_of servers (Advanced n) = leb n clock_end
is_entry_of servers (Charged s n) = ltb s servers && leb 1 n && leb n clock_end
is_entry_of servers (Closed s) = ltb s servers

-- an entry of a tape, if a record may hold it
abbrev pub taped_entry : ℕ → Entry → Result Entry FileKind
taped_entry servers e = if is_entry_of servers e then Ok e else Err OutOfRange

-- the entries of a tape, unless bytes that are no entry come after them
abbrev pub ended : Ending → List Entry → Result (List Entry) FileFault
ended Unknown es = Err (faulty (Step (length es)) OutOfRange)
ended ending es = Ok es

-- the steps that a tape tells, or the first fault: the place of an entry is its number. A tape may be cut
unfoldable pub taped : ℕ → List ℕ → Result (List Entry) FileFault
taped servers bytes = do
  entries ← each_from 0 (λ i e. at (Step i) (taped_entry servers e)) (told bytes).entries
  ended (told bytes).ending entries

-- how many entries there are, if they end so that the tape is cut
abbrev pub cut_at : ℕ → Ending → Option ℕ
cut_at entries Cut = Some entries
cut_at entries ending = None

abbrev pub cut_in : Told → Option ℕ
cut_in t = cut_at (length t.entries) t.ending

-- how many entries the tape of a record has, if it has one that is cut
abbrev pub cut_after : List ℕ → Option ℕ
cut_after bytes = option_and_then (λ tape. cut_in (told tape)) (tape_of bytes)
