-- What a record holds.
use Rattle.std.specs.Prelude.{◌≡◌, ℕ, ◌≤◌, ◌<◌, List, length, All, Option}
use Rattle.cbs_rate.specs.Limits.{most_backlog, most_units}
use Rattle.cbs_rate.specs.Plan.{Planned}
use Rattle.cbs_rules.specs.Rules.{clock_end}
use Rattle.cbs_rules.specs.declared.mode.Mode.{Mode}
use Rattle.cbs_tape.specs.declared.entry.Entry.{Entry}
use Rattle.cbs_tape.specs.declared.entry.Entry.TheVariants.{Accepted, Units, Advanced, Charged, Closed}

-- the names, modes and plan of the servers, the greatest backlog of each, the nanoseconds of a tick, if they are said, and
-- the steps in order, each unit of a row a step
pub record RecordFile : Type 0 where
  pub tick : Option ℕ
  pub names : List (List ℕ)
  pub modes : List Mode
  pub plan : Planned
  pub backlog : ℕ
  pub entries : List Entry

-- an entry that a record may hold: if it names a server, that is one of so many. A job has a unit or more, and a row of
-- units is no longer than the clock goes
abbrev pub IsEntryOf : ℕ → Entry → Type 0
IsEntryOf servers (Accepted s units) = (s < servers) × (1 ≤ units) × (units ≤ most_units)
IsEntryOf servers (Units n) = (1 ≤ n) × (n ≤ clock_end)
IsEntryOf servers (Advanced n) = n ≤ clock_end
IsEntryOf servers (Charged s n) = (s < servers) × (1 ≤ n) × (n ≤ clock_end)
IsEntryOf servers (Closed s) = s < servers

-- the job of an entry, if it has one, has 1 to 1000000 units
abbrev pub HasUnits : Entry → Type 0
HasUnits (Accepted s units) = (1 ≤ units) × (units ≤ most_units)
HasUnits _ = Unit {0}

-- what holds of every record
pub record IsRecord (f : RecordFile) : Type 0 where
  pub named : length f.names ≡ length f.plan.rates
  pub moded : length f.modes ≡ length f.plan.rates
  pub some_backlog : 1 ≤ f.backlog
  pub small_backlog : f.backlog ≤ most_backlog
  pub each : All (IsEntryOf (length f.plan.rates)) f.entries
