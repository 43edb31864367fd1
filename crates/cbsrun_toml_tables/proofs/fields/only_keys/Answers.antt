use Rattle.std.proofs.Common.{◌≡◌, true, false, map, sym, ◌∙◌}
use Rattle.toml.specs.View.{table_view}
use Rattle.cbsrun_toml_tables.specs.Fields.{has_only}
use Rattle.cbsrun_toml_tables.proofs.Tables.{has_only-view}
use Rattle.cbsrun_toml_tables.proofs.fields.only_keys.Goals as goal

pub returns-then-are_listed : goal.returns-then-are_listed
returns-then-are_listed c =
    let yes : has_only (map (λ k. k.now) c.args.keys.now) (table_view c.args.table.now) ≡ true =
    sym (has_only-view c.args.keys.now c.args.table.now.entries) ∙ (sym c.are_listed.ensures ∙ c.if-are_listed.true) in
    rw yes

pub returns-else-are_listed : goal.returns-else-are_listed
returns-else-are_listed c =
    let no : has_only (map (λ k. k.now) c.args.keys.now) (table_view c.args.table.now) ≡ false =
    sym (has_only-view c.args.keys.now c.args.table.now.entries) ∙ (sym c.are_listed.ensures ∙ c.if-are_listed.false) in
    rw no
