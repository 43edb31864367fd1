use Rattle.std.proofs.Common.{◌≡◌, Ok, sym, ◌∙◌, arith}
use Rattle.std.proofs.lemmas.Grind.{common_steps}
use Rattle.toml.specs.View.{table_view}
use Rattle.cbsrun_toml_tables.specs.declared.fault.Place.TheVariants.{Top}
use Rattle.cbsrun_toml_tables.specs.Documents.{at, document, no_memory}
use Rattle.cbsrun_toml_tables.proofs.Places.{Gives-at, gives_ok}
use Rattle.cbsrun_tasks.specs.Spelling.{file}
use Rattle.cbsrun_tasks.proofs.file.read_whole.Goals as goal

pub returns : goal.returns
unfolding file
returns c =
    let table : at Top (document c.args.bytes.now) ≡ Ok (table_view c.in_ok-table.table) =
    gives_ok no_memory table_view (at Top c.document.result) _ c.in_ok-table.table
    (Gives-at Top table_view c.document.result _ c.document.ensures) (sym c.at.ensures ∙ c.in_ok-table.was) in
    rw table c.tasks_in.ensures

pub returns-in_err-table : goal.returns-in_err-table
unfolding file
returns-in_err-table c = grind (arith, common_steps)
