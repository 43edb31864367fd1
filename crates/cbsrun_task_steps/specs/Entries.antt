-- What one entry of a task file's arrays spells: a server or a step. Each table is tested in four turns: unknown keys,
-- missing keys, types of values, ranges of values. The `op` of a step is tested before these.
use Rattle.std.specs.Prelude.{ℕ, ℤ, ◌<◌, eqb, if◌then◌else◌, Result, Ok, codes, bytes_eq, map, List, [], ◌∷◌, Option, Some, None, Err}
use Rattle.cbs_rules.specs.Rules.{clock_end}
use Rattle.cbsrun_toml_tables.specs.declared.fault.FileKind.{FileKind}
use Rattle.cbsrun_task_steps.specs.declared.format.Format.{Format}
use Rattle.cbsrun_task_steps.specs.declared.format.Format.TheVariants.{One, Two}
use Rattle.cbsrun_toml_tables.specs.Fields.{◌>>=◌, within, only_keys, with_keys, table_with, integer_at, text_at, items_at, all_integers, number, members, below}
use Rattle.cbsrun_toml_tables.specs.Fields.{sized, each}
use Rattle.cbs_rate.specs.Limits.{greatest_number, most_units}
use Rattle.toml.specs.Data.{Data, Members}
use Rattle.toml.specs.View.{view}
use Rattle.cbs_rate.specs.Rate.{Rate}
use Rattle.cbs_rules.specs.declared.mode.Mode.{Mode}
use Rattle.cbs_job.specs.declared.file.FileJob.{FileJob}
use Rattle.cbs_job.specs.declared.file.FileJob.TheVariants.{Sum, Peak}
use Rattle.cbs_steps.specs.declared.step.Step.{Step}
use Rattle.cbs_steps.specs.declared.step.Step.TheVariants as step
use Rattle.cbs_steps.specs.declared.step.Step.TheVariants.{Submit, Run, Advance, Close, Charge}
use Rattle.cbsrun_task_steps.specs.declared.entries.ServerEntry.{ServerEntry}
use Rattle.cbsrun_task_steps.specs.declared.entries.SubmitFields.{SubmitFields}
use Rattle.cbsrun_toml_tables.specs.declared.fault.FileKind.TheVariants.{OutOfRange}
use Rattle.cbsrun_toml_tables.specs.Plans.{reservation, mode_of}

-- the format of this number
abbrev pub format_of : ℤ → Result Format FileKind
format_of format_number = do
  number ← within 1 2 format_number
  Ok (if eqb number 1 then One else Two)

-- the format of the file
abbrev pub format_at : Members → Result Format FileKind
format_at table = do
  format_number ← integer_at (codes "format") table
  format_of format_number

-- the longest advance of one step, in ticks
abbrev pub longest_advance : Format → ℕ
longest_advance One = 1000000000
longest_advance Two = clock_end

-- ---- a server

-- the reservation that an entry of `server` spells, in a file whose servers all follow one mode
unfoldable pub reserved_entry : Data → Result Rate FileKind
reserved_entry entry = do
  table ← table_with (codes "budget" ∷ codes "period" ∷ []) [] entry
  budget_number ← integer_at (codes "budget") table
  period_number ← integer_at (codes "period") table
  reservation budget_number period_number

-- the server that an entry of `server` spells, in a file in which each server has its own mode
unfoldable pub moded_entry : Data → Result ServerEntry FileKind
moded_entry entry = do
  table ← table_with (codes "budget" ∷ codes "period" ∷ codes "mode" ∷ []) [] entry
  budget_number ← integer_at (codes "budget") table
  period_number ← integer_at (codes "period") table
  mode_word ← text_at (codes "mode") table
  reservation ← reservation budget_number period_number
  mode ← mode_of mode_word
  Ok (record { mode = mode; reservation = reservation })

-- the server that an entry of `server` spells. If a mode is given, all servers have that mode, and the entry has none
abbrev pub server_entry : Option Mode → Data → Result ServerEntry FileKind
server_entry (Some mode) entry = do
  reservation ← reserved_entry entry
  Ok (record { mode = mode; reservation = reservation })
server_entry None entry = moded_entry entry

-- ---- a step

-- the job of this kind over the numbers
abbrev pub job_of : List ℕ → List ℕ → Result FileJob FileKind
job_of kind numbers =
    if bytes_eq kind (codes "sum") then Ok (Sum (record { numbers = numbers; output = 0 }))
    else if bytes_eq kind (codes "peak") then Ok (Peak (record { numbers = numbers; output = 0 }))
    else Err OutOfRange

-- the keys of a submit without its `op`, each of its type
pub record SubmitData : Type 0 where
  pub server : ℤ
  pub job : List ℕ
  pub units : List Data

unfoldable pub submit_fields : Members → Result SubmitData FileKind
submit_fields table = do
  _ ← with_keys (codes "op" ∷ codes "server" ∷ codes "job" ∷ codes "units" ∷ []) [] table
  server ← integer_at (codes "server") table
  job ← text_at (codes "job") table
  units ← items_at (codes "units") table
  _ ← all_integers units
  Ok (record { server = server; job = job; units = units })

-- a submit of a job over 1 to 1000000 numbers, each 0 to 4294967295, to one of this many servers
unfoldable pub submit_entry : ℕ → Members → Result (Step FileJob) FileKind
submit_entry servers table = do
  fields ← submit_fields table
  server ← below servers fields.server
  _ ← sized 1 most_units fields.units
  units ← each (number 0 greatest_number) fields.units
  job ← job_of fields.job units
  Ok (step.Submit server job)

-- a run, which has no other key than its `op`
unfoldable pub run_entry : Members → Result (Step FileJob) FileKind
run_entry table = do
  _ ← only_keys (codes "op" ∷ []) table
  Ok step.Run

-- an advance, which may be as long as the format allows
unfoldable pub advance_entry : Format → Members → Result (Step FileJob) FileKind
advance_entry format table = do
  _ ← with_keys (codes "op" ∷ codes "ticks" ∷ []) [] table
  ticks_number ← integer_at (codes "ticks") table
  ticks ← within 0 (longest_advance format) ticks_number
  Ok (step.Advance ticks)

-- a close of one of this many servers
unfoldable pub close_entry : ℕ → Members → Result (Step FileJob) FileKind
close_entry servers table = do
  _ ← with_keys (codes "op" ∷ codes "server" ∷ []) [] table
  server_number ← integer_at (codes "server") table
  server ← below servers server_number
  Ok (step.Close server)

-- the step of an entry whose `op` is this word
abbrev pub entry_for : Format → ℕ → Members → List ℕ → Result (Step FileJob) FileKind
entry_for format servers table word =
    if bytes_eq word (codes "submit") then submit_entry servers table
    else if bytes_eq word (codes "run") then run_entry table
    else if bytes_eq word (codes "advance") then advance_entry format table
    else if bytes_eq word (codes "close") then close_entry servers table
    else Err OutOfRange

-- the step that an entry of `step` spells, in a file of this format with this many servers. Its `op` decides which
-- other keys it has
unfoldable pub step_entry : Format → ℕ → Data → Result (Step FileJob) FileKind
step_entry format servers entry = do
  table ← members entry
  word ← text_at (codes "op") table
  entry_for format servers table word

-- the keys of a submit, as the code holds them
abbrev pub submit_view : SubmitFields → SubmitData
submit_view f = record { server = f.server; job = f.job.now; units = map view f.units.now.items }

-- a step that a file may hold: if it names a server, that is a server of the plan. No charge stands in a file
abbrev pub IsFileStep : ℕ → Step FileJob → Type 0
IsFileStep servers (Submit server job) = server < servers
IsFileStep servers Run = Unit {0}
IsFileStep servers (Advance ticks) = Unit {0}
IsFileStep servers (Close server) = server < servers
IsFileStep servers (Charge server ticks) = ⊥
