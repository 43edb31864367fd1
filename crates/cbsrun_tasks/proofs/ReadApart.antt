-- The file that a document spells whose steps were read apart.
use Rattle.std.proofs.Common.{◌≡◌, ℕ, List, codes, true, Option, Some, None, is_some, Ok, Err, length, refl}
use Rattle.std.specs.Str.{is_utf8}
use Rattle.toml.specs.Data.{array, Items, no_items, Members, get_member}
use Rattle.toml.specs.Parse.{parse_document}
use Rattle.cbs_steps.specs.declared.step.Step.{Step}
use Rattle.cbs_job.specs.declared.file.FileJob.{FileJob}
use Rattle.cbsrun_toml_tables.specs.declared.fault.FileKind.{FileKind}
use Rattle.cbsrun_toml_tables.specs.declared.fault.FileKind.TheVariants.{NotToml}
use Rattle.cbsrun_toml_tables.specs.declared.fault.FileFault.{FileFault}
use Rattle.cbsrun_toml_tables.specs.declared.fault.Place.TheVariants.{Top, Step as AtStep}
use Rattle.cbsrun_task_steps.specs.Entries.{step_entry}
use Rattle.cbsrun_toml_tables.specs.Fields.{each_from, list_of}
use Rattle.cbs_rules.specs.Setups.{ModedPlan, no_servers}
use Rattle.cbsrun_toml_tables.specs.Documents.{at, document, faulty, has_key, taken_in}
use Rattle.cbsrun_tasks.specs.Spelling.{admitted_entry, file, file_in}
use Rattle.cbsrun_tasks.specs.TopTables.{TopData, top_table}
use Rattle.cbsrun_toml.specs.Reading.{insert_member}
use Rattle.toml.specs.View.{table_view}
use Rattle.cbsrun_tasks.specs.Streams.{IsDocument}
use Rattle.cbsrun_task_steps.specs.declared.steps.StepsRead.{StepsRead}
use Rattle.cbsrun_tasks.specs.declared.stream.Document.{Document as Doc}
use Rattle.cbsrun_tasks.proofs.OtherSteps.{get_other, top_steps}

-- a text that is no TOML spells no file
pub not_toml : (bytes : List ℕ) → is_utf8 bytes ≡ true → parse_document bytes ≡ None → file bytes ≡ Err (faulty Top NotToml)
unfolding file
not_toml bytes utf8 none = rw (utf8, none) refl

-- whether the file is a load is seen in its table, whether its steps stand there or apart
pub load_key : (doc : Doc) (read : Option StepsRead) (bytes : List ℕ) → is_utf8 bytes ≡ true → IsDocument doc read (parse_document bytes)
    → has_key (codes "load") bytes ≡ Ok (is_some (get_member (codes "load") (table_view doc.table)))
load_key doc None bytes utf8 parsed = rw (utf8, parsed) refl
load_key doc (Some r) bytes utf8 (ds, parsed, none, spells) =
    rw (utf8, parsed, get_other (codes "load") (codes "step") (array ds) (table_view doc.table) refl none) refl

-- the file of a document is that of its top table
pub file_of_table : (bytes : List ℕ) (ms : Members) → at Top (document bytes) ≡ Ok ms → file bytes ≡ file_in ms
unfolding file
file_of_table bytes ms is = rw is refl

-- the table of a document whose steps do not stand apart
pub whole_table : (bytes : List ℕ) (ms : Members) → is_utf8 bytes ≡ true → parse_document bytes ≡ Some ms → at Top (document bytes) ≡ Ok ms
whole_table bytes ms utf8 parsed = rw (utf8, parsed) refl

module _ (bytes : List ℕ) (ds : Items) (ms : Members) (utf8 : is_utf8 bytes ≡ true)
    (parsed : parse_document bytes ≡ Some (insert_member (codes "step") (array ds) ms)) (none : get_member (codes "step") ms ≡ None) where
  -- a fault of the top table, which does not look into the steps
  pub top_fault : (kind : FileKind) → top_table (insert_member (codes "step") (array no_items) ms) ≡ Err kind → file bytes ≡ Err (faulty Top kind)
  unfolding file
  top_fault kind bad = rw (utf8, parsed, top_steps ds no_items ms none, bad) refl

  module _ (top : TopData) (good : top_table (insert_member (codes "step") (array no_items) ms) ≡ Ok top) where
    -- a fault of a server
    pub setup_fault : (fault : FileFault) → taken_in (admitted_entry top.mode) 0 (no_servers top.bound) top.servers ≡ Err fault → file bytes ≡ Err fault
    unfolding file
    setup_fault fault bad = rw (utf8, parsed, top_steps ds no_items ms none, good, bad) refl

    module _ (setup : ModedPlan) (taken : taken_in (admitted_entry top.mode) 0 (no_servers top.bound) top.servers ≡ Ok setup) where
      -- a fault of a step
      pub steps_fault : (fault : FileFault) → each_from 0 (λ i entry. at (AtStep i) (step_entry top.format (length setup.plan.rates) entry))
          (list_of ds) ≡ Err fault
          → file bytes ≡ Err fault
      unfolding file
      steps_fault fault bad = rw (utf8, parsed, top_steps ds no_items ms none, good, taken, bad) refl

      -- no fault
      pub whole_file : (steps : List (Step FileJob))
          → each_from 0 (λ i entry. at (AtStep i) (step_entry top.format (length setup.plan.rates) entry)) (list_of ds) ≡ Ok steps
          → file bytes ≡ Ok (record { modes = setup.modes; plan = setup.plan; backlog = top.backlog; ring = top.ring; steps = steps })
      unfolding file
      whole_file steps read = rw (utf8, parsed, top_steps ds no_items ms none, good, taken, read) refl
