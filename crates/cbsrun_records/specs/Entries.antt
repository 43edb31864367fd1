-- What one entry of `step` spells. Each table is tested in four turns: unknown keys, missing keys, types of values, ranges
-- of values. The `op` is tested before these.
use Rattle.std.specs.Prelude.{ℕ, if◌then◌else◌, unwrap_or, Result, Ok, Err, codes, bytes_eq, List, [], ◌∷◌}
use Rattle.cbs_rate.specs.Limits.{most_units}
use Rattle.cbs_rules.specs.Rules.{clock_end}
use Rattle.cbs_tape.specs.declared.entry.Entry.{Entry}
use Rattle.cbs_tape.specs.declared.entry.Entry.TheVariants.{Accepted, Units, Advanced, Charged, Closed}
use Rattle.cbsrun_toml_tables.specs.declared.fault.FileKind.{FileKind}
use Rattle.cbsrun_toml_tables.specs.declared.fault.FileKind.TheVariants.{OutOfRange}
use Rattle.cbsrun_toml_tables.specs.Fields.{◌>>=◌, within, with_keys, integer_at, optional_integer_at, of_some, text_at, members, below}
use Rattle.toml.specs.Data.{Data, Members}

-- a submit of a job of 1 to 1000000 units to one of this many servers
unfoldable pub submit_entry : ℕ → Members → Result Entry FileKind
submit_entry servers table = do
  _ ← with_keys (codes "op" ∷ codes "server" ∷ codes "units" ∷ []) [] table
  server_number ← integer_at (codes "server") table
  units_number ← integer_at (codes "units") table
  server ← below servers server_number
  units ← within 1 most_units units_number
  Ok (Accepted server units)

-- runs, one after another: one, if their number is left out
unfoldable pub run_entry : Members → Result Entry FileKind
run_entry table = do
  _ ← with_keys (codes "op" ∷ []) (codes "times" ∷ []) table
  times_number ← optional_integer_at (codes "times") table
  times ← of_some (within 1 clock_end) times_number
  Ok (Units (unwrap_or times 1))

-- an advance
unfoldable pub advance_entry : Members → Result Entry FileKind
advance_entry table = do
  _ ← with_keys (codes "op" ∷ codes "ticks" ∷ []) [] table
  ticks_number ← integer_at (codes "ticks") table
  ticks ← within 0 clock_end ticks_number
  Ok (Advanced ticks)

-- a close of one of this many servers
unfoldable pub close_entry : ℕ → Members → Result Entry FileKind
close_entry servers table = do
  _ ← with_keys (codes "op" ∷ codes "server" ∷ []) [] table
  server_number ← integer_at (codes "server") table
  server ← below servers server_number
  Ok (Closed server)

-- a charge of one of this many servers for its last unit, of a tick or more
unfoldable pub charge_entry : ℕ → Members → Result Entry FileKind
charge_entry servers table = do
  _ ← with_keys (codes "op" ∷ codes "server" ∷ codes "ticks" ∷ []) [] table
  server_number ← integer_at (codes "server") table
  ticks_number ← integer_at (codes "ticks") table
  server ← below servers server_number
  ticks ← within 1 clock_end ticks_number
  Ok (Charged server ticks)

-- the step of an entry whose `op` is this word
abbrev pub entry_for : ℕ → Members → List ℕ → Result Entry FileKind
entry_for servers table word =
    if bytes_eq word (codes "submit") then submit_entry servers table
    else if bytes_eq word (codes "run") then run_entry table
    else if bytes_eq word (codes "advance") then advance_entry table
    else if bytes_eq word (codes "close") then close_entry servers table
    else if bytes_eq word (codes "charge") then charge_entry servers table
    else Err OutOfRange

-- the step that an entry of `step` spells, in a record with this many servers. Its `op` decides which other keys it has
unfoldable pub step_entry : ℕ → Data → Result Entry FileKind
step_entry servers entry = do
  table ← members entry
  word ← text_at (codes "op") table
  entry_for servers table word
