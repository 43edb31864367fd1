-- What the bytes of a task file spell: the file, or its first fault with the place of that fault.
use Rattle.std.specs.Prelude.{ℕ, length, List, Option, Some, None, Result, Ok, Err, ◌≡◌, ◌⊎◌, true, false, codes}
use Rattle.toml.specs.Data.{Data, Members}
use Rattle.cbs_rate.specs.Plan.{admit_refusal}
use Rattle.cbs_rate.specs.declared.error.AdmitError.{AdmitError}
use Rattle.cbs_rules.specs.declared.mode.Mode.{Mode}
use Rattle.cbs_rules.specs.Setups.{ModedPlan, no_servers, with_server}
use Rattle.cbsrun_toml_tables.specs.declared.fault.FileKind.{FileKind}
use Rattle.cbsrun_toml_tables.specs.declared.fault.FileKind.TheVariants.{NotAdmitted}
use Rattle.cbsrun_toml_tables.specs.declared.fault.FileFault.{FileFault}
use Rattle.cbsrun_toml_tables.specs.declared.fault.Place.TheVariants.{Top, Step as AtStep}
use Rattle.cbsrun_toml_tables.specs.Documents.{at, document, taken_in, has_key, no_memory}
use Rattle.cbsrun_task_steps.specs.Entries.{server_entry, step_entry}
use Rattle.cbsrun_toml_tables.specs.Fields.{◌>>=◌, each_from}
use Rattle.cbsrun_tasks.specs.TaskFiles.{File}
use Rattle.cbsrun_tasks.specs.TopTables.{top_table}
use Rattle.toml.specs.View.{table_view}
use Rattle.cbsrun_tasks.specs.declared.kinds.Found.{Found}
use Rattle.cbsrun_tasks.specs.declared.kinds.Found.TheVariants.{Tasks, Load}

-- the value, unless the plan refused
abbrev pub unless_refused : {A : Type 0} → A → Option AdmitError → Result A FileKind
unless_refused x None = Ok x
unless_refused x (Some error) = Err NotAdmitted

-- the setup with the server of one more entry. If a mode is given, all servers have that mode, and the entry has none
abbrev pub admitted_entry : Option Mode → ModedPlan → Data → Result ModedPlan FileKind
admitted_entry mode setup entry = do
  server ← server_entry mode entry
  unless_refused (with_server setup server.reservation server.mode) (admit_refusal setup.plan server.reservation)

-- the file that a top table spells
abbrev pub file_in : Members → Result File FileFault
file_in table = do
  top ← at Top (top_table table)
  setup ← taken_in (admitted_entry top.mode) 0 (no_servers top.bound) top.servers
  steps ← each_from 0 (λ i entry. at (AtStep i) (step_entry top.format (length setup.plan.rates) entry)) top.steps
  Ok (record { modes = setup.modes; plan = setup.plan; backlog = top.backlog; ring = top.ring; steps = steps })

-- the file that the bytes spell
unfoldable pub file : List ℕ → Result File FileFault
file bytes = do
  table ← at Top (document bytes)
  file_in table

-- What was found is what the bytes spell: the task file, if their top table lacks the key `load`, and else that table.
-- A fault is that of the document, or of the task file; or out of memory
abbrev pub Finds : List ℕ → Result Found FileFault → Type 0
Finds bytes (Ok (Tasks f)) = (has_key (codes "load") bytes ≡ Ok false) × (file bytes ≡ Ok f)
Finds bytes (Ok (Load table)) = (has_key (codes "load") bytes ≡ Ok true) × (at Top (document bytes) ≡ Ok (table_view table))
Finds bytes (Err fault) = (fault ≡ no_memory) ⊎ ((has_key (codes "load") bytes ≡ Err fault) ⊎ ((has_key (codes "load") bytes ≡ Ok false) × (file bytes ≡ Err fault)))
