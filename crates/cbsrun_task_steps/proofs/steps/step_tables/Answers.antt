use Rattle.std.proofs.Common.{◌≡◌, ◌==◌, ◌-◌, length, codes, false, le_refl, Some, [], string_bytes, refl, ◌∙◌, rules, arith}
use Rattle.std.proofs.lemmas.Grind.{common_steps}
use Rattle.toml_parser.specs.Lexical.{skip_blank}
use Rattle.toml.specs.Data.{no_items, table, push_item}
use Rattle.toml.specs.Parse.{line}
use Rattle.toml.specs.Tables.{Nodes, open_array, close, array_table, Document}
use Rattle.toml.proofs.Turns.{lines_end, lines_more, lines_bad}
use Rattle.cbsrun_toml.specs.Reading.{growing}
use Rattle.cbsrun_toml.proofs.Growing.{place_growing, next_table}
use Rattle.cbsrun_toml_tokens.proofs.Results.{stops_by}
use Rattle.cbsrun_toml_tables.specs.Fields.{list_of}
use Rattle.cbsrun_task_steps.specs.Steps.{Spells}
use Rattle.cbsrun_toml.proofs.Members.{close-insert}
use Rattle.cbsrun_task_steps.proofs.MoreSteps.{list_of-push}
use Rattle.cbsrun_task_steps.proofs.steps.step_tables.Goals as goal

pub tables-init : goal.tables-init
tables-init c = (search rules, le_refl _, λ n root h. (n, no_items, h, refl, c.new-found.ensures c.args.terms))

pub returns-in_err-after : goal.returns-in_err-after
returns-in_err-after c n root h =
    let l = c.tables in
    let step = codes "step" in
    let (m, done, room, loop, spells) = l.invariant.2 n root h in
    let at : Nodes → Document = growing step root done in
    let place = place_growing step root done in
    stops_by _ _ c.from_residual.result c.in_err-after.field-0.0 _ c.from_residual.ensures.1 (λ y p. p) λ refused.
    loop ∙ c.in_err-after.ensures.refusal refused m at place room

pub returns-then-is_empty : goal.returns-then-is_empty
returns-then-is_empty c n root h =
    let l = c.tables in
    let step = codes "step" in
    let (m, done, room, loop, spells) = l.invariant.2 n root h in
    let at : Nodes → Document = growing step root done in
    let place = place_growing step root done in
    let taken = c.in_ok-after.ensures.read in
    let last = taken.pairs in
    let (k, space, lines_are) = taken.placed m at place room in
    let more = push_item done (table (close last)) in
    let took : Spells c.args.terms c.read_section.new.found (list_of more) = rw (list_of-push done (table (close last))) (taken.took (list_of done) spells) in
    let start = skip_blank c.in_ok-after.after.now in
    let start_is = c.skip_blank-start.ensures.rest in
    let over : length start ≡ 0 = grind (arith, common_steps) in
    let ended = loop ∙ lines_are ∙ lines_end k (at last) c.in_ok-after.after.now (omega arith) over in
    (more, at last, ended, close-insert step (open_array done last) root, took)

pub returns-in_err-next : goal.returns-in_err-next
returns-in_err-next c n root h =
    let l = c.tables in
    let step = codes "step" in
    let (m, done, room, loop, spells) = l.invariant.2 n root h in
    let at : Nodes → Document = growing step root done in
    let place = place_growing step root done in
    let taken = c.in_ok-after.ensures.read in
    let last = taken.pairs in
    let (k, space, lines_are) = taken.placed m at place room in
    let start = skip_blank c.in_ok-after.after.now in
    let start_is = c.skip_blank-start.ensures.rest in
    let other : (length start == 0) ≡ false = grind (arith, common_steps) in
    stops_by _ _ c.from_residual-in_err-next.result c.in_err-next.field-0.0 _ c.from_residual-in_err-next.ensures.1 (λ y p. p) λ refused.
    loop ∙ lines_are ∙ lines_bad k (at last) c.in_ok-after.after.now (omega arith) other (rw start_is at (c.in_err-next.ensures.value refused))

pub tables-preserved : goal.tables-preserved
tables-preserved c =
    let shorter = c.in_ok-next.ensures.shorter in
    let within = c.in_ok-after.ensures.within in
    let before = c.skip_blank-start.ensures.within in (
      search rules,
      omega (arith, c.tables.invariant.1),
      λ n root h.
          let l = c.tables in
          let step = codes "step" in
          let (m, done, room, loop, spells) = l.invariant.2 n root h in
          let at : Nodes → Document = growing step root done in
          let place = place_growing step root done in
          let taken = c.in_ok-after.ensures.read in
          let last = taken.pairs in
          let (k, space, lines_are) = taken.placed m at place room in
          let more = push_item done (table (close last)) in
          let took : Spells c.args.terms c.read_section.new.found (list_of more) =
          rw (list_of-push done (table (close last))) (taken.took (list_of done) spells) in
          let start = skip_blank c.in_ok-after.after.now in
          let start_is = c.skip_blank-start.ensures.rest in
          let other : (length start == 0) ≡ false = grind (arith, common_steps) in
          let same : string_bytes c.in_ok-next.next ≡ step = search rules in
          let header : line start ≡ Some ((([], step), array_table), c.in_ok-next.body.now) = rw (← same) (rw start_is at c.in_ok-next.ensures.value) in (
            k - 1,
            more,
            omega arith,
            loop ∙ lines_are ∙ lines_more k (at last) _ c.in_ok-after.after.now _ _ (omega arith) other header
                (next_table step root done last),
            took,
          ),
    )
