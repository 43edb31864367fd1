-- The steps of a file, as they were read entry by entry.
use Rattle.std.specs.Prelude.{◌≡◌, ℕ, codes, List, [], ◌∷◌, ◌++◌, length, Option, Some, None, Result, Ok, Err, MatchResult, All}
use Rattle.std.specs.Borrow.{Bor}
use Rattle.toml.specs.Data.{Data, array, table, Items}
use Rattle.toml.specs.Parse.{val}
use Rattle.toml.specs.Tables.{Nodes, close, Document as Lines}
use Rattle.toml_parser.specs.Lexical.{Read}
use Rattle.cbs_job.specs.declared.file.FileJob.{FileJob}
use Rattle.cbs_steps.specs.declared.step.Step.{Step}
use Rattle.cbsrun_toml.specs.Reading.{insert_member}
use Rattle.cbsrun_toml_tokens.specs.declared.stop.Stop.{Stop}
use Rattle.cbsrun_toml_tokens.specs.declared.stop.Stop.TheVariants.{NotToml}
use Rattle.cbsrun_toml_tables.specs.declared.fault.FileKind.{FileKind}
use Rattle.cbsrun_toml_tables.specs.declared.fault.FileFault.{FileFault}
use Rattle.cbsrun_toml_tables.specs.declared.fault.Place.TheVariants.{Step as AtStep}
use Rattle.cbsrun_toml_tables.specs.Documents.{at, faulty}
use Rattle.cbsrun_toml_tables.specs.Fields.{list_of, each_from}
use Rattle.cbsrun_task_steps.specs.declared.steps.StepsRead.{StepsRead}
use Rattle.cbsrun_task_steps.specs.declared.terms.Terms.{Terms}
use Rattle.cbsrun_toml_plain.specs.Pairs.{PutsLines}
use Rattle.cbsrun_task_steps.specs.Entries.{step_entry, IsFileStep}

-- the steps, or the first fault, which stands at the entry after them
abbrev pub outcome : List (Step FileJob) → Option FileKind → Result (List (Step FileJob)) FileFault
outcome steps None = Ok steps
outcome steps (Some kind) = Err (faulty (AtStep (length steps)) kind)

-- by these terms, the entries spell exactly the steps and the fault that were read
abbrev pub Spells : Terms → StepsRead → List Data → Type 0
Spells t r entries = (each_from 0 (λ i entry. at (AtStep i) (step_entry t.format t.servers entry)) entries ≡ outcome r.steps.items r.fault)
    × All (IsFileStep t.servers) r.steps.items

-- the entry was taken as one more
abbrev pub Takes : Terms → StepsRead → StepsRead → Data → Type 0
Takes t old new entry = (entries : List Data) → Spells t old entries → Spells t new (entries ++ entry ∷ [])

-- the entry at the start of a text was taken as one more, and `rest` is the text after it
pub record TakesEntry (t : Terms) (old new : StepsRead) (text rest : List ℕ) : Type 0 where
  pub entry : Data
  pub read : val 79 text ≡ Some (entry, rest)
  pub took : Takes t old new entry

-- the lines at the start of a text are the pairs of one more table, which was taken, and `rest` is the text after it
pub record TakesSection (t : Terms) (old new : StepsRead) (text rest : List ℕ) : Type 0 where
  pub pairs : Nodes
  pub placed : PutsLines text pairs rest
  pub took : Takes t old new (table (close pairs))

-- the items that the grammar gives spell what was read, or the grammar refuses
abbrev pub ReadsSteps : Terms → Result (StepsRead × Bor (List ℕ)) Stop → Read Items → Type 0
ReadsSteps t r expected =
    MatchResult r (λ p. (ds : Items) × (expected ≡ Some (ds, p.1.now)) × Spells t p.0 (list_of ds)) (λ e. e ≡ NotToml → expected ≡ None)

-- the grammar refuses the lines; or they add an array of tables at the key of the steps, and these tables spell what
-- was read
abbrev pub ReadsStepTables : Terms → Nodes → Result StepsRead Stop → Option Lines → Type 0
ReadsStepTables t root r expected = MatchResult r
    (λ found. (ds : Items) × (doc : Lines) × (expected ≡ Some doc) × (close doc.0 ≡ insert_member (codes "step") (array ds) (close root))
    × Spells t found (list_of ds))
    (λ e. e ≡ NotToml → expected ≡ None)
