-- The step that a table spells which is read pair by pair.
use Rattle.std.specs.Prelude.{◌≡◌, ℕ, pos, nat_le, map, ◌<◌, true, codes, List, length, Some, Ok}
use Rattle.std.specs.List.{list_all}
use Rattle.toml.specs.Data.{table, string, integer, Items}
use Rattle.toml.specs.Tables.{Nodes, no_nodes, node, value, close}
use Rattle.toml_parser.specs.Lexical.{Read}
use Rattle.cbs_rate.specs.Limits.{greatest_number}
use Rattle.cbs_job.specs.declared.file.FileJob.{FileJob}
use Rattle.cbs_steps.specs.declared.step.Step.{Step}
use Rattle.cbsrun_toml_tables.specs.Fields.{list_of}
use Rattle.cbsrun_toml_plain.specs.declared.pairs.Layout.{Layout}
use Rattle.cbsrun_toml_plain.specs.Pairs.{IsTable}
use Rattle.cbsrun_task_steps.specs.declared.terms.Terms.{Terms}
use Rattle.cbsrun_task_steps.specs.Entries.{step_entry}
use Rattle.cbsrun_task_steps.specs.Entries.{IsFileStep}

-- the pair of an operation
abbrev pub op_pair : List ℕ → Nodes
op_pair word = node (codes "op") (value (string word)) no_nodes

-- these are numbers of 32 bits, and the items of an array are these numbers
pub record AreUnits (units : List ℕ) (ds : Items) : Type 0 where
  pub items : list_of ds ≡ map (λ n. integer (pos n)) units
  pub most : list_all (λ n. nat_le n greatest_number) units ≡ true

-- the grammar gives an array of these numbers, and the text after it
abbrev pub ReadsUnits : List ℕ → List ℕ → Read Items → Type 0
ReadsUnits units rest expected = (ds : Items) × (expected ≡ Some (ds, rest)) × AreUnits units ds

-- the table at the start of a text spells this step, and `rest` is the text after the table
pub record SpellsStep (layout : Layout) (t : Terms) (text : List ℕ) (step : Step FileJob) (rest : List ℕ) : Type 0 where
  pub pairs : Nodes
  pub read : IsTable layout text pairs rest
  pub spells : step_entry t.format t.servers (table (close pairs)) ≡ Ok step
  pub named : IsFileStep t.servers step
  pub shorter : length rest < length text
