use Rattle.std.proofs.Common.{◌≡◌, ◌==◌, ◌-◌, length, true, false, le_refl, Some, ◌∙◌, rules, arith}
use Rattle.std.proofs.lemmas.Grind.{common_steps}
use Rattle.toml_parser.specs.Lexical.{first, skip_blank, skip_ws}
use Rattle.toml_parser.specs.Reading.{key_view}
use Rattle.toml_parser.specs.Strings.{Key}
use Rattle.toml.specs.View.{table_view}
use Rattle.toml.specs.Tables.{Document}
use Rattle.toml.specs.Parse.{key_equals, ends_line}
use Rattle.toml.proofs.Turns.{lines_more, lines_bad, lines_refused}
use Rattle.cbsrun_toml.specs.Reading.{nodes_of}
use Rattle.cbsrun_toml.proofs.LineReads.{line_pair, line_no_end, line_no_key, line_no_value, pair_placed, pair_refused}
use Rattle.cbsrun_toml_tokens.proofs.Results.{stops_by}
use Rattle.cbsrun_toml.proofs.lines.pairs.Goals as goal

pub lines-init : goal.lines-init
lines-init c = (search rules, le_refl _, λ n at place h. (n, h, rw c.new-found.ensures.empty))

pub returns-in_err-key-clause-value : goal.returns-in_err-key-clause-value
returns-in_err-key-clause-value c n at place h =
    let l = c.lines in
    let start = skip_blank l.rest.now in
    let start_is = c.skip_blank-start.ensures.rest in
    let other : (length start == 0) ≡ false = grind (arith, common_steps) in
    let pair : (first start == 91) ≡ false = grind (arith, common_steps) in
    let (m, room, loop) = l.invariant.2 n at place h in
    let doc : Document = at (nodes_of (table_view l.found)) in
    stops_by _ _ c.from_residual.result c.in_err-key.field-0.0 _ c.from_residual.ensures.1 (λ y p. p) λ refused.
    loop ∙ lines_bad m doc l.rest.now (omega arith) other (line_no_key start pair (rw start_is at (c.in_err-key.ensures.value refused)))

pub returns-in_err-member-clause-value : goal.returns-in_err-member-clause-value
returns-in_err-member-clause-value c n at place h =
    let l = c.lines in
    let start = skip_blank l.rest.now in
    let start_is = c.skip_blank-start.ensures.rest in
    let other : (length start == 0) ≡ false = grind (arith, common_steps) in
    let pair : (first start == 91) ≡ false = grind (arith, common_steps) in
    let key : Key = key_view c.in_ok-key.key in
    let read_key : key_equals start ≡ Some (key, c.in_ok-key.at_value.now) = rw start_is at c.in_ok-key.ensures.value in
    let (m, room, loop) = l.invariant.2 n at place h in
    let doc : Document = at (nodes_of (table_view l.found)) in
    stops_by _ _ c.from_residual-in_err-member.result c.in_err-member.field-0.0 _ c.from_residual-in_err-member.ensures.1 (λ y p. p) λ refused.
    loop ∙ lines_bad m doc l.rest.now (omega arith) other (line_no_value start _ key pair read_key (c.in_err-member.ensures.value refused))

pub returns-then-not-ends_line-clause-value : goal.returns-then-not-ends_line-clause-value
returns-then-not-ends_line-clause-value c n at place h e =
    let l = c.lines in
    let start = skip_blank l.rest.now in
    let start_is = c.skip_blank-start.ensures.rest in
    let other : (length start == 0) ≡ false = grind (arith, common_steps) in
    let pair : (first start == 91) ≡ false = grind (arith, common_steps) in
    let key : Key = key_view c.in_ok-key.key in
    let read_key : key_equals start ≡ Some (key, c.in_ok-key.at_value.now) = rw start_is at c.in_ok-key.ensures.value in
    let after = c.in_ok-member.after.now in
    let (m, room, loop) = l.invariant.2 n at place h in
    let doc : Document = at (nodes_of (table_view l.found)) in
    let end : ends_line (skip_ws after) ≡ false = rw (← c.skip_ws.ensures.rest, ← c.ends_line.ensures) c.if-not-ends_line.true in
    loop ∙ lines_bad m doc l.rest.now (omega arith) other (line_no_end start _ after key _ pair read_key c.in_ok-member.ensures.value end)

pub returns-in_err-put-clause-value : goal.returns-in_err-put-clause-value
returns-in_err-put-clause-value c n at place h =
    let l = c.lines in
    let start = skip_blank l.rest.now in
    let start_is = c.skip_blank-start.ensures.rest in
    let other : (length start == 0) ≡ false = grind (arith, common_steps) in
    let pair : (first start == 91) ≡ false = grind (arith, common_steps) in
    let key : Key = key_view c.in_ok-key.key in
    let read_key : key_equals start ≡ Some (key, c.in_ok-key.at_value.now) = rw start_is at c.in_ok-key.ensures.value in
    let after = c.in_ok-member.after.now in
    let (m, room, loop) = l.invariant.2 n at place h in
    let doc : Document = at (nodes_of (table_view l.found)) in
    let end : ends_line (skip_ws after) ≡ true = rw (← c.skip_ws.ensures.rest, ← c.ends_line.ensures) c.if-not-ends_line.false in
    let read = line_pair start _ after key _ pair read_key c.in_ok-member.ensures.value end in
    stops_by _ _ c.from_residual-in_err-put.result c.in_err-put.field-0.0 _ c.from_residual-in_err-put.ensures.1 (λ y p. p) λ refused.
    loop ∙ lines_refused m doc l.rest.now _ _ (omega arith) other read
    (pair_refused at place (nodes_of (table_view l.found)) key _ (c.in_err-put.ensures refused))

pub lines-preserved : goal.lines-preserved
lines-preserved c =
    let l = c.lines in
    let start = skip_blank l.rest.now in
    let start_is = c.skip_blank-start.ensures.rest in
    let other : (length start == 0) ≡ false = grind (arith, common_steps) in
    let pair : (first start == 91) ≡ false = grind (arith, common_steps) in
    let key : Key = key_view c.in_ok-key.key in
    let read_key : key_equals start ≡ Some (key, c.in_ok-key.at_value.now) = rw start_is at c.in_ok-key.ensures.value in
    let after = c.in_ok-member.after.now in
    let end : ends_line (skip_ws after) ≡ true = rw (← c.skip_ws.ensures.rest, ← c.ends_line.ensures) c.if-not-ends_line.false in
    let read = line_pair start _ after key _ pair read_key c.in_ok-member.ensures.value end in
    let shorter = c.in_ok-key.ensures.shorter in
    let shorter_again = c.in_ok-member.ensures.shorter in
    let before = c.skip_blank-start.ensures.within in (
      search rules,
      omega (arith, l.invariant.1),
      λ n at place h.
          let (m, room, loop) = l.invariant.2 n at place h in
          let doc : Document = at (nodes_of (table_view l.found)) in (
            m - 1,
            omega arith,
            loop ∙ lines_more m doc _ l.rest.now _ _ (omega arith) other read
                (pair_placed at place (nodes_of (table_view l.found)) _ key _ c.in_ok-put.ensures),
          ),
    )
