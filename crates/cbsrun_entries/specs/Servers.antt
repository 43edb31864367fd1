-- What one entry of `server` spells in a load file.
use Rattle.std.specs.Prelude.{ℕ, ◌&&◌, ◌||◌, Bool, eqb, codes, length, nat_le, if◌then◌else◌, List, [], ◌∷◌, Option, Result, Ok, Err}
use Rattle.std.specs.Char.{is_ascii_alphanumeric}
use Rattle.std.specs.List.{list_all}
use Rattle.toml.specs.Data.{Data}
use Rattle.cbs_rate.specs.Rate.{Rate}
use Rattle.cbs_rules.specs.declared.mode.Mode.{Mode}
use Rattle.cbsrun_toml_tables.specs.declared.fault.FileKind.{FileKind}
use Rattle.cbsrun_toml_tables.specs.declared.fault.FileKind.TheVariants.{OutOfRange}
use Rattle.cbsrun_times.specs.declared.ticks.Rounding.TheVariants.{Up, Whole}
use Rattle.cbsrun_toml_tables.specs.Fields.{◌>>=◌, table_with, text_at}
use Rattle.cbsrun_toml_tables.specs.Plans.{reservation, mode_of}
use Rattle.cbsrun_entries.specs.Times.{ticks_at}
use Rattle.cbsrun_entries.specs.declared.server.ServerEntry.{ServerEntry}

-- a letter, a digit, `-` or `_`
abbrev pub is_name_byte : ℕ → Bool
is_name_byte b = is_ascii_alphanumeric b || eqb b 45 || eqb b 95

-- a name: 1 to 32 letters, digits, `-` and `_`
abbrev pub name_of : List ℕ → Result (List ℕ) FileKind
name_of name = if nat_le 1 (length name) && nat_le (length name) 32 && list_all is_name_byte name then Ok name else Err OutOfRange

-- a server, as its entry gives it
pub record ServerData : Type 0 where
  pub name : List ℕ
  pub mode : Mode
  pub reservation : Rate

-- the server of an entry. Its budget is rounded up to ticks, and its period has to be whole
unfoldable pub server_entry : Option ℕ → Data → Result ServerData FileKind
server_entry tick entry = do
  table ← table_with (codes "name" ∷ codes "mode" ∷ codes "budget" ∷ codes "period" ∷ []) [] entry
  name_text ← text_at (codes "name") table
  mode_word ← text_at (codes "mode") table
  budget_number ← ticks_at tick Up (codes "budget") table
  period_number ← ticks_at tick Whole (codes "period") table
  name ← name_of name_text
  mode ← mode_of mode_word
  reservation ← reservation budget_number period_number
  Ok (record { name = name; mode = mode; reservation = reservation })

-- the server, as the code holds it
abbrev pub server_view : ServerEntry → ServerData
server_view s = record { name = s.name.now; mode = s.mode; reservation = s.reservation }
