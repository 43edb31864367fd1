use Rattle.std.proofs.Common.{◌≡◌, ◌==◌, ◌-◌, length, false, le_refl, Some, [], string_bytes, refl, ap, ◌∙◌, rules, arith}
use Rattle.std.proofs.lemmas.Grind.{common_steps}
use Rattle.toml_parser.specs.Lexical.{skip_blank}
use Rattle.toml.specs.Data.{table as Data-table, push_item}
use Rattle.toml.specs.Parse.{line}
use Rattle.toml.specs.Tables.{Nodes, close, array_table, Document}
use Rattle.toml.specs.View.{array_view, items_view, table_view}
use Rattle.toml.specs.declared.value.Value.{Table}
use Rattle.toml.proofs.Turns.{lines_more, lines_bad}
use Rattle.toml.proofs.Views.{items_view-push, view-Table}
use Rattle.cbsrun_toml.specs.Reading.{nodes_of, growing}
use Rattle.cbsrun_toml.proofs.Growing.{place_growing, next_table}
use Rattle.cbsrun_toml.proofs.Puts.{close-nodes_of}
use Rattle.cbsrun_toml_tokens.proofs.Results.{stops_by}
use Rattle.cbsrun_toml.proofs.tables.tables.Goals as goal

pub tables-init : goal.tables-init
tables-init c = (search rules, le_refl _, λ n root none h. (n, h, rw c.new-found.ensures.items))

pub returns-in_err-table-clause-value : goal.returns-in_err-table-clause-value
returns-in_err-table-clause-value c n root none h =
    let l = c.tables in
    let key = c.args.key.now in
    let (m, room, loop) = l.invariant.2 n root none h in
    let at : Nodes → Document = growing key root (array_view l.found) in
    let place = place_growing key root (array_view l.found) in
    stops_by _ _ c.from_residual.result c.in_err-table.field-0.0 _ c.from_residual.ensures.1 (λ y p. p) λ refused.
    loop ∙ c.in_err-table.ensures.value m at place room refused

pub returns-then-is_empty-clause-value : goal.returns-then-is_empty-clause-value
returns-then-is_empty-clause-value c n root none h =
    let l = c.tables in
    let key = c.args.key.now in
    let (m, room, loop) = l.invariant.2 n root none h in
    let at : Nodes → Document = growing key root (array_view l.found) in
    let place = place_growing key root (array_view l.found) in
    let table = c.in_ok-table.table in
    let last = nodes_of (table_view table) in
    let (k, space, lines_are) = c.in_ok-table.ensures.value m at place room in
    let pushed : array_view c.push.new.self ≡ push_item (array_view l.found) (Data-table (close last)) =
    ap items_view c.in-Ok.ensures.items ∙ items_view-push l.found.items (Table table) ∙ rw (view-Table table, close-nodes_of (table_view table)) refl in
    (k, space, array_view l.found, last, loop ∙ lines_are, pushed)

pub returns-in_err-next-clause-value : goal.returns-in_err-next-clause-value
returns-in_err-next-clause-value c n root none h =
    let l = c.tables in
    let key = c.args.key.now in
    let (m, room, loop) = l.invariant.2 n root none h in
    let at : Nodes → Document = growing key root (array_view l.found) in
    let place = place_growing key root (array_view l.found) in
    let table = c.in_ok-table.table in
    let last = nodes_of (table_view table) in
    let (k, space, lines_are) = c.in_ok-table.ensures.value m at place room in
    let pushed : array_view c.push.new.self ≡ push_item (array_view l.found) (Data-table (close last)) =
    ap items_view c.in-Ok.ensures.items ∙ items_view-push l.found.items (Table table) ∙ rw (view-Table table, close-nodes_of (table_view table)) refl in
    let start = skip_blank c.in_ok-table.after.now in
    let start_is = c.skip_blank-start.ensures.rest in
    let other : (length start == 0) ≡ false = grind (arith, common_steps) in
    stops_by _ _ c.from_residual-in_err-next.result c.in_err-next.field-0.0 _ c.from_residual-in_err-next.ensures.1 (λ y p. p) λ refused.
    loop ∙ lines_are ∙ lines_bad k (at last) c.in_ok-table.after.now (omega arith) other (rw start_is at (c.in_err-next.ensures.value refused))

pub returns-then-ne-clause-value : goal.returns-then-ne-clause-value
returns-then-ne-clause-value c n root none h =
    let l = c.tables in
    let key = c.args.key.now in
    let (m, room, loop) = l.invariant.2 n root none h in
    let at : Nodes → Document = growing key root (array_view l.found) in
    let place = place_growing key root (array_view l.found) in
    let table = c.in_ok-table.table in
    let last = nodes_of (table_view table) in
    let (k, space, lines_are) = c.in_ok-table.ensures.value m at place room in
    let pushed : array_view c.push.new.self ≡ push_item (array_view l.found) (Data-table (close last)) =
    ap items_view c.in-Ok.ensures.items ∙ items_view-push l.found.items (Table table) ∙ rw (view-Table table, close-nodes_of (table_view table)) refl in
    (k, space, array_view l.found, last, loop ∙ lines_are, pushed)

pub tables-preserved : goal.tables-preserved
tables-preserved c =
    let shorter = c.in_ok-next.ensures.shorter in
    let within = c.in_ok-table.ensures.within in
    let before = c.skip_blank-start.ensures.within in (
      search rules,
      omega (arith, c.tables.invariant.1),
      λ n root none h.
          let l = c.tables in
          let key = c.args.key.now in
          let (m, room, loop) = l.invariant.2 n root none h in
          let at : Nodes → Document = growing key root (array_view l.found) in
          let place = place_growing key root (array_view l.found) in
          let table = c.in_ok-table.table in
          let last = nodes_of (table_view table) in
          let (k, space, lines_are) = c.in_ok-table.ensures.value m at place room in
          let pushed : array_view c.push.new.self ≡ push_item (array_view l.found) (Data-table (close last)) =
          ap items_view c.in-Ok.ensures.items ∙ items_view-push l.found.items (Table table) ∙ rw (view-Table table, close-nodes_of (table_view table)) refl in
          let start = skip_blank c.in_ok-table.after.now in
          let start_is = c.skip_blank-start.ensures.rest in
          let other : (length start == 0) ≡ false = grind (arith, common_steps) in
          let same : string_bytes c.in_ok-next.next ≡ key = search rules in
          let read : line start ≡ Some ((([], key), array_table), c.in_ok-next.body.now) = rw (← same) (rw start_is at c.in_ok-next.ensures.value) in (
            k - 1,
            omega arith,
            loop ∙ lines_are ∙ lines_more k (at last) _ c.in_ok-table.after.now _ _ (omega arith) other read
                (next_table key root (array_view l.found) last) ∙ rw pushed refl,
          ),
    )
