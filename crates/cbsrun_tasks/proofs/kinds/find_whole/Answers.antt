use Rattle.std.proofs.Common.{◌≡◌, ◌∙◌, refl, sym, codes, false, is_some, Ok}
use Rattle.toml.specs.Data.{get_member}
use Rattle.toml.specs.View.{table_view}
use Rattle.cbsrun_toml.proofs.Puts.{has_key as key_found}
use Rattle.cbsrun_toml_tables.specs.declared.fault.Place.TheVariants.{Top}
use Rattle.cbsrun_toml_tables.specs.Documents.{at, document, has_key, no_memory}
use Rattle.cbsrun_toml_tables.proofs.Places.{Gives-at, gives_ok}
use Rattle.cbsrun_tasks.proofs.ReadApart.{file_of_table}
use Rattle.cbsrun_tasks.proofs.kinds.find_whole.Goals as goal

pub returns-then-not-contains_key : goal.returns-then-not-contains_key
returns-then-not-contains_key c =
    let bytes = c.args.bytes.now in
    let t = c.in_ok-table.table in
    let table : at Top (document bytes) ≡ Ok (table_view t) =
    gives_ok no_memory table_view (at Top c.document.result) _ t (Gives-at Top table_view c.document.result _ c.document.ensures)
    (sym c.at.ensures ∙ c.in_ok-table.was) in
    let key : is_some (get_member (codes "load") (table_view t)) ≡ false =
    sym (key_found (codes "load") t.entries) ∙ (sym c.contains_key.ensures ∙ c.if-not-contains_key.true) in
    let lacks : has_key (codes "load") bytes ≡ Ok false = rw (table, key) refl in
    c.tasks_found.ensures bytes lacks (rw (file_of_table bytes (table_view t) table) c.tasks_in.ensures)

pub returns : goal.returns
returns c =
    let bytes = c.args.bytes.now in
    let t = c.in_ok-table.table in
    let table : at Top (document bytes) ≡ Ok (table_view t) =
    gives_ok no_memory table_view (at Top c.document.result) _ t (Gives-at Top table_view c.document.result _ c.document.ensures)
    (sym c.at.ensures ∙ c.in_ok-table.was) in
    let key = sym (key_found (codes "load") t.entries) ∙ (sym c.contains_key.ensures ∙ c.if-not-contains_key.false) in
    (rw (table, key) refl, table)
