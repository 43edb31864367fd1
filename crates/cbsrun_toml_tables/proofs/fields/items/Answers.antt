use Rattle.std.proofs.Common.{◌≡◌, Some, None, sym, ◌∙◌}
use Rattle.toml.specs.Data.{as_array}
use Rattle.toml.specs.View.{view, array_view}
use Rattle.cbsrun_toml_tables.proofs.Tables.{list_of-view, items_from, items_of_none}
use Rattle.cbsrun_toml_tables.proofs.fields.items.Goals as goal

pub returns-in-Some : goal.returns-in-Some
returns-in-Some c =
    let is : as_array (view c.args.value.now) ≡ Some (array_view c.in-Some.v.now) = sym (rw c.in-Some.is at c.as_array.ensures) in
    sym (items_from (view c.args.value.now) (array_view c.in-Some.v.now) is ∙ rw (list_of-view c.in-Some.v.now.items))

pub returns-in-None : goal.returns-in-None
returns-in-None c =
    let is : as_array (view c.args.value.now) ≡ None = sym (rw c.in-None.is at c.as_array.ensures) in
    sym (items_of_none (view c.args.value.now) is)
