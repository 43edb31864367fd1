-- What the bytes of a record spell: the record, or its first fault with the place of that fault.
use Rattle.std.specs.Prelude.{ℕ, is_some, length, List, [], Option, Some, None, Result, Ok}
use Rattle.toml.specs.Data.{Data}
use Rattle.cbs_tape.specs.declared.entry.Entry.{Entry}
use Rattle.toml.specs.Data.{Members}
use Rattle.cbs_rules.specs.Setups.{no_servers}
use Rattle.cbsrun_loads.specs.Spelling.{admitted_entry}
use Rattle.cbsrun_toml_tables.specs.declared.fault.FileFault.{FileFault}
use Rattle.cbsrun_toml_tables.specs.declared.fault.Place.TheVariants.{Top, Step}
use Rattle.cbsrun_toml_tables.specs.Documents.{at, document, taken_in}
use Rattle.cbsrun_toml_tables.specs.Fields.{◌>>=◌, each_from}
use Rattle.cbsrun_records.specs.Entries.{step_entry}
use Rattle.cbsrun_records.specs.Parts.{tape_of, text_of}
use Rattle.cbsrun_records.specs.Records.{RecordFile}
use Rattle.cbsrun_records.specs.Taped.{taped}
use Rattle.cbsrun_records.specs.TopTables.{top_table}

-- the steps of a record with this many servers: those of its entries of `step`, or those that its tape tells
abbrev pub steps_in : ℕ → List Data → Option (List ℕ) → Result (List Entry) FileFault
steps_in servers steps None = each_from 0 (λ i entry. at (Step i) (step_entry servers entry)) steps
steps_in servers steps (Some tape) = taped servers tape

-- the record that a top table spells, with this tape, if it has one. Its servers are spelled as those of a load
unfoldable pub record_in : Option (List ℕ) → Members → Result RecordFile FileFault
record_in tape table = do
  top ← at Top (top_table (is_some tape) table)
  servers ← taken_in (admitted_entry top.tick) 0 (record { names = []; setup = no_servers top.bound }) top.servers
  entries ← steps_in (length servers.setup.plan.rates) top.steps tape
  Ok (record {
    tick = top.tick;
    names = servers.names;
    modes = servers.setup.modes;
    plan = servers.setup.plan;
    backlog = top.backlog;
    entries = entries;
  })

-- the record that the bytes spell
abbrev pub record_of : List ℕ → Result RecordFile FileFault
record_of bytes = at Top (document (text_of bytes)) >>= record_in (tape_of bytes)
