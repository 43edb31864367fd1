use Rattle.std.proofs.Common.{◌≡◌, true, false, map, is_some, sym, ◌∙◌}
use Rattle.std.specs.List.{list_all}
use Rattle.toml.specs.Data.{as_integer}
use Rattle.toml.specs.View.{view}
use Rattle.cbsrun_toml_tables.proofs.Tables.{list_all-view}
use Rattle.cbsrun_toml_tables.proofs.fields.all_integers.Goals as goal

pub returns-then-are_integers : goal.returns-then-are_integers
returns-then-are_integers c =
    let yes : list_all (λ d. is_some (as_integer d)) (map view c.args.values.now) ≡ true =
    list_all-view (λ d. is_some (as_integer d)) c.args.values.now ∙ (sym c.are_integers.ensures ∙ c.if-are_integers.true) in
    rw yes

pub returns-else-are_integers : goal.returns-else-are_integers
returns-else-are_integers c =
    let no : list_all (λ d. is_some (as_integer d)) (map view c.args.values.now) ≡ false =
    list_all-view (λ d. is_some (as_integer d)) c.args.values.now ∙ (sym c.are_integers.ensures ∙ c.if-are_integers.false) in
    rw no
