use Rattle.std.proofs.Common.{◌≡◌, ◌==◌, ◌-◌, suc, length, true, false, Some, None, [], codes, sym, ap, ◌∙◌, rules, arith}
use Rattle.std.proofs.lemmas.Bool.{eqb-true, eq-eqb}
use Rattle.toml_parser.specs.Lexical.{first, skip_blank, skip_ws}
use Rattle.toml_parser.specs.Reading.{key_view}
use Rattle.toml_parser.specs.Strings.{Key}
use Rattle.toml.specs.Data.{get_member, array}
use Rattle.toml.specs.View.{table_view}
use Rattle.toml.specs.Tables.{Document}
use Rattle.toml.specs.Parse.{parse_document, key_equals, val, ends_line}
use Rattle.toml.proofs.Turns.{document_some, lines_end, lines_more, val_open_array}
use Rattle.cbsrun_toml.specs.Reading.{nodes_of}
use Rattle.cbsrun_toml.proofs.Puts.{close-nodes_of, has_key, is_none, put_new}
use Rattle.cbsrun_toml.specs.Reading.{insert_member}
use Rattle.cbsrun_toml.proofs.LineReads.{line_pair, line_no_end, line_no_key, line_no_value, define_pair, define_again}
use Rattle.cbsrun_toml.proofs.Members.{nodes_of-insert_member}
use Rattle.cbsrun_tasks.proofs.Documents.{document_err}
use Rattle.cbsrun_tasks.proofs.PairLines.{at_pair, line_bad, line_refused}
use Rattle.cbsrun_tasks.proofs.stream.read_document.Goals as goal

pub lines-init : goal.lines-init
lines-init c = (
  search rules,
  c.skip_bom-rest.ensures.within,
  suc (length c.args.s.now),
  omega (arith, c.skip_bom-rest.ensures.within),
  rw (c.skip_bom-rest.ensures.rest, c.new-table.ensures.empty),
)

pub returns-then-is_empty-clause-value : goal.returns-then-is_empty-clause-value
returns-then-is_empty-clause-value c =
    let l = c.lines in
    let start = skip_blank l.rest.now in
    let doc : Document = (nodes_of (table_view l.table), []) in
    let m = l.invariant.2 in
    let room = l.invariant.3 in
    let loop = l.invariant.4 in
    let start_is = c.skip_blank-start.ensures.rest in
    let none : length start ≡ 0 = eqb-true _ _ (rw (← start_is, ← c.is_empty.ensures) c.if-is_empty.true) in
    let ended = loop ∙ lines_end m doc l.rest.now (omega arith) none in
    document_some c.args.s.now doc ended ∙ ap Some (close-nodes_of (table_view l.table))

pub returns-in_err-key-clause-value : goal.returns-in_err-key-clause-value
returns-in_err-key-clause-value c =
    let start_is = c.skip_blank-start.ensures.rest in
    let at = at_pair _ _ _ _ _ _ _ c.lines.invariant.3 c.lines.invariant.4 start_is c.is_empty.ensures c.if-is_empty.false c.first.ensures
    c.if-first-eq91.false in
    document_err c.from_residual.result _ c.in_err-key.field-0.0 _ c.from_residual.ensures.1 (λ y p. p) λ refused.
    line_bad _ _ _ at (line_no_key _ at.pair (rw start_is at (c.in_err-key.ensures.value refused)))

pub returns-in_err-value-clause-value : goal.returns-in_err-value-clause-value
returns-in_err-value-clause-value c =
    let start_is = c.skip_blank-start.ensures.rest in
    let at = at_pair _ _ _ _ _ _ _ c.lines.invariant.3 c.lines.invariant.4 start_is c.is_empty.ensures c.if-is_empty.false c.first.ensures
    c.if-first-eq91.false in
    let read_key : key_equals (skip_blank c.lines.rest.now) ≡ Some (key_view c.in_ok-key.key, c.in_ok-key.at_value.now) =
    rw start_is at c.in_ok-key.ensures.value in
    document_err c.from_residual-in_err-value.result _ c.in_err-value.field-0.0 _ c.from_residual-in_err-value.ensures.1 (λ y p. p) λ refused.
    line_bad _ _ _ at (line_no_value _ _ _ at.pair read_key (c.in_err-value.ensures.value refused))

pub returns-then-not-ends_line-2-clause-value : goal.returns-then-not-ends_line-2-clause-value
returns-then-not-ends_line-2-clause-value c e =
    let start_is = c.skip_blank-start.ensures.rest in
    let at = at_pair _ _ _ _ _ _ _ c.lines.invariant.3 c.lines.invariant.4 start_is c.is_empty.ensures c.if-is_empty.false c.first.ensures
    c.if-first-eq91.false in
    let read_key : key_equals (skip_blank c.lines.rest.now) ≡ Some (key_view c.in_ok-key.key, c.in_ok-key.at_value.now) =
    rw start_is at c.in_ok-key.ensures.value in
    let after = c.in_ok-value.after.now in
    let end : ends_line (skip_ws after) ≡ false = rw (← c.skip_ws-in-lines.ensures.rest, ← c.ends_line-in-lines.ensures) c.if-not-ends_line-2.true in
    line_bad _ _ _ at (line_no_end _ _ _ _ _ at.pair read_key c.in_ok-value.ensures.value end)

pub returns-in_err-put-clause-value : goal.returns-in_err-put-clause-value
returns-in_err-put-clause-value c =
    let start_is = c.skip_blank-start.ensures.rest in
    let at = at_pair _ _ _ _ _ _ _ c.lines.invariant.3 c.lines.invariant.4 start_is c.is_empty.ensures c.if-is_empty.false c.first.ensures
    c.if-first-eq91.false in
    let read_key : key_equals (skip_blank c.lines.rest.now) ≡ Some (key_view c.in_ok-key.key, c.in_ok-key.at_value.now) =
    rw start_is at c.in_ok-key.ensures.value in
    let after = c.in_ok-value.after.now in
    let end : ends_line (skip_ws after) ≡ true = rw (← c.skip_ws-in-lines.ensures.rest, ← c.ends_line-in-lines.ensures) c.if-not-ends_line-2.false in
    let read = line_pair _ _ _ _ _ at.pair read_key c.in_ok-value.ensures.value end in
    document_err c.from_residual-in_err-put.result _ c.in_err-put.field-0.0 _ c.from_residual-in_err-put.ensures.1 (λ y p. p) λ refused.
    line_refused _ _ _ _ _ at read (define_again _ _ _ (c.in_err-put.ensures refused))

pub lines-preserved : goal.lines-preserved
lines-preserved c =
    let start_is = c.skip_blank-start.ensures.rest in
    let at = at_pair _ _ _ _ _ _ _ c.lines.invariant.3 c.lines.invariant.4 start_is c.is_empty.ensures c.if-is_empty.false c.first.ensures
    c.if-first-eq91.false in
    let read_key : key_equals (skip_blank c.lines.rest.now) ≡ Some (key_view c.in_ok-key.key, c.in_ok-key.at_value.now) =
    rw start_is at c.in_ok-key.ensures.value in
    let after = c.in_ok-value.after.now in
    let end : ends_line (skip_ws after) ≡ true = rw (← c.skip_ws-in-lines.ensures.rest, ← c.ends_line-in-lines.ensures) c.if-not-ends_line-2.false in
    let read = line_pair _ _ _ _ _ at.pair read_key c.in_ok-value.ensures.value end in
    let room = at.room in
    let shorter = c.in_ok-key.ensures.shorter in
    let shorter_again = c.in_ok-value.ensures.shorter in
    let before = c.skip_blank-start.ensures.within in (
      search rules,
      omega (arith, c.lines.invariant.1),
      at.turns - 1,
      omega arith,
      at.before ∙ lines_more at.turns _ _ c.lines.rest.now _ _ (omega arith) at.more read (define_pair _ _ _ _ c.in_ok-put.ensures),
    )

pub returns-in_err-read-clause-value : goal.returns-in_err-read-clause-value
returns-in_err-read-clause-value c =
    let start_is = c.skip_blank-start.ensures.rest in
    let at = at_pair _ _ _ _ _ _ _ c.lines.invariant.3 c.lines.invariant.4 start_is c.is_empty.ensures c.if-is_empty.false c.first.ensures
    c.if-first-eq91.false in
    let read_key : key_equals (skip_blank c.lines.rest.now) ≡ Some (key_view c.in_ok-key.key, c.in_ok-key.at_value.now) =
    rw start_is at c.in_ok-key.ensures.value in
    let text = c.in_ok-key.at_value.now in
    let opens : (first text == 91) ≡ true = eq-eqb _ _ (sym c.first-then-is_step.ensures ∙ c.if-first-eq91-2.true) in
    document_err c.from_residual-in_err-read.result _ c.in_err-read.field-0.0 _ c.from_residual-in_err-read.ensures.1 (λ y p. p) λ refused.
    let none : val 80 text ≡ None = val_open_array 80 text (omega arith) opens
    ∙ rw (← c.skip.ensures.rest, c.in_err-read.ensures.value (length text) c.skip.ensures.shorter refused) in
    line_bad _ _ _ at (line_no_value _ _ _ at.pair read_key none)

pub returns-then-not-ends_line-clause-value : goal.returns-then-not-ends_line-clause-value
returns-then-not-ends_line-clause-value c e =
    let start_is = c.skip_blank-start.ensures.rest in
    let at = at_pair _ _ _ _ _ _ _ c.lines.invariant.3 c.lines.invariant.4 start_is c.is_empty.ensures c.if-is_empty.false c.first.ensures
    c.if-first-eq91.false in
    let read_key : key_equals (skip_blank c.lines.rest.now) ≡ Some (key_view c.in_ok-key.key, c.in_ok-key.at_value.now) =
    rw start_is at c.in_ok-key.ensures.value in
    let text = c.in_ok-key.at_value.now in
    let opens : (first text == 91) ≡ true = eq-eqb _ _ (sym c.first-then-is_step.ensures ∙ c.if-first-eq91-2.true) in
    let (ds, got, spells) = c.in_ok-read.ensures.value (length text) c.skip.ensures.shorter in
    let after = c.in_ok-read.after.now in
    let read_steps : val 80 text ≡ Some (array ds, after) = val_open_array 80 text (omega arith) opens ∙ rw (← c.skip.ensures.rest, got) in
    let end : ends_line (skip_ws after) ≡ false = rw (← c.skip_ws.ensures.rest, ← c.ends_line.ensures) c.if-not-ends_line.true in
    line_bad _ _ _ at (line_no_end _ _ _ _ _ at.pair read_key read_steps end)

pub returns-then-first-eq91-2-clause-value : goal.returns-then-first-eq91-2-clause-value
returns-then-first-eq91-2-clause-value c =
    let start_is = c.skip_blank-start.ensures.rest in
    let at = at_pair _ _ _ _ _ _ _ c.lines.invariant.3 c.lines.invariant.4 start_is c.is_empty.ensures c.if-is_empty.false c.first.ensures
    c.if-first-eq91.false in
    let step : Key = ([], codes "step") in
    let is_step : key_view c.in_ok-key.key ≡ step = c.is_step.ensures c.if-is_step.true in
    let read_key : key_equals (skip_blank c.lines.rest.now) ≡ Some (step, c.in_ok-key.at_value.now) = rw is_step at (rw start_is at c.in_ok-key.ensures.value) in
    let text = c.in_ok-key.at_value.now in
    let opens : (first text == 91) ≡ true = eq-eqb _ _ (sym c.first-then-is_step.ensures ∙ c.if-first-eq91-2.true) in
    let (ds, got, spells) = c.in_ok-read.ensures.value (length text) c.skip.ensures.shorter in
    let after = c.in_ok-read.after.now in
    let read_steps : val 80 text ≡ Some (array ds, after) = val_open_array 80 text (omega arith) opens ∙ rw (← c.skip.ensures.rest, got) in
    let end : ends_line (skip_ws after) ≡ true = rw (← c.skip_ws.ensures.rest, ← c.ends_line.ensures) c.if-not-ends_line.false in
    let read = line_pair _ _ _ _ _ at.pair read_key read_steps end in
    let ms = table_view c.lines.table in
    let none : get_member (codes "step") ms ≡ None = is_none (codes "step") ms
    (sym (has_key (codes "step") c.lines.table.entries) ∙ (sym c.contains_key.ensures ∙ c.if-contains_key.false)) in
    let defined = define_pair (nodes_of ms) _ step (array ds) (put_new (codes "step") (array ds) ms none) in
    let next : Document = (nodes_of (insert_member (codes "step") (array ds) ms), []) in
    let shorter = c.in_ok-key.ensures.shorter in
    let shorter_again = c.skip.ensures.shorter in
    let shorter_still = c.in_ok-read.ensures.shorter in
    let before = c.skip_blank-start.ensures.within in
    let blank_is = c.skip_blank.ensures.rest in
    let over : length (skip_blank after) ≡ 0 = eqb-true _ _ (rw (← blank_is, ← c.is_empty-then-first-eq91-2.ensures) c.if-not-is_empty.false) in
    let room = at.room in
    let ended = at.before ∙ lines_more at.turns _ next c.lines.rest.now _ after (omega arith) at.more read
    (rw (nodes_of-insert_member (codes "step") (array ds) ms) defined) ∙ lines_end (at.turns - 1) next after (omega arith) over in
    (ds, document_some c.args.s.now next ended ∙ ap Some (close-nodes_of (insert_member (codes "step") (array ds) ms)), none, spells)

pub returns-then-first-eq91-2-clause-named : goal.returns-then-first-eq91-2-clause-named
returns-then-first-eq91-2-clause-named c =
    let (ds, got, spells) = c.in_ok-read.ensures.value (length c.in_ok-key.at_value.now) c.skip.ensures.shorter in
    spells.1

pub returns-then-first-eq91-clause-value : goal.returns-then-first-eq91-clause-value
unfolding parse_document
returns-then-first-eq91-clause-value c =
    let l = c.lines in
    let m = l.invariant.2 in
    let room = l.invariant.3 in
    let loop = l.invariant.4 in
    rw loop (c.read_tables.ensures.value m (nodes_of (table_view l.table), []) (close-nodes_of (table_view l.table)) room)
