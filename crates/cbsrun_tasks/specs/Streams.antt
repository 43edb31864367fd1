-- The document of a task file, whose steps were read apart.
use Rattle.std.specs.Prelude.{◌≡◌, codes, Option, Some, None, Result, MatchResult}
use Rattle.toml.specs.Data.{array, Items, Members, get_member}
use Rattle.toml.specs.View.{table_view}
use Rattle.cbsrun_toml.specs.Reading.{insert_member}
use Rattle.cbsrun_toml_tokens.specs.declared.stop.Stop.{Stop}
use Rattle.cbsrun_toml_tokens.specs.declared.stop.Stop.TheVariants.{NotToml}
use Rattle.cbsrun_toml_tables.specs.Fields.{list_of}
use Rattle.cbsrun_task_steps.specs.declared.steps.StepsRead.{StepsRead}
use Rattle.cbsrun_task_steps.specs.Steps.{Spells}
use Rattle.cbsrun_tasks.specs.declared.stream.Document.{Document}

-- the expected members are the table of the document that was read, with the steps at their key if the steps were read
-- apart
abbrev pub IsDocument : Document → Option StepsRead → Option Members → Type 0
IsDocument doc None expected = expected ≡ Some (table_view doc.table)
IsDocument doc (Some r) expected =
    (ds : Items) × (expected ≡ Some (insert_member (codes "step") (array ds) (table_view doc.table)))
    × (get_member (codes "step") (table_view doc.table) ≡ None)
    × Spells doc.terms r (list_of ds)

-- what was read is the document that the grammar gives, or the grammar refuses
abbrev pub ReadsDocument : Result Document Stop → Option Members → Type 0
ReadsDocument r expected = MatchResult r (λ p. IsDocument p p.read expected) (λ e. e ≡ NotToml → expected ≡ None)
