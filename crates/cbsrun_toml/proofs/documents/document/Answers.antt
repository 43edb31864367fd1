use Rattle.std.proofs.Common.{◌<◌, length, [], suc, ap, sym, ◌∙◌, arith}
use Rattle.toml.specs.View.{table_view}
use Rattle.cbsrun_toml.specs.Reading.{closed, nodes_of}
use Rattle.cbsrun_toml.proofs.Arrays.{document_is, ends_none, place_top}
use Rattle.cbsrun_toml.proofs.Puts.{close-nodes_of}
use Rattle.cbsrun_toml_tokens.proofs.Results.{gives_err}
use Rattle.cbsrun_toml.proofs.documents.document.Goals as goal

pub returns-in_err-table : goal.returns-in_err-table
returns-in_err-table c =
    let s = c.args.s.now in
    let within = c.skip_bom.ensures.within in
    let less : length c.skip_bom.result.now < suc (length s) = omega (arith, within) in
    gives_err _ c.from_residual.result _ c.in_err-table.field-0.0 _ c.from_residual.ensures.1 (λ y p. p) λ refused.
    document_is s ∙ ap closed (rw c.skip_bom.ensures.rest at (c.in_err-table.ensures.value (suc (length s)) (λ ns. (ns, [])) place_top less refused))

pub returns-in_err-table-2 : goal.returns-in_err-table-2
returns-in_err-table-2 c =
    let s = c.args.s.now in
    let within = c.skip_bom.ensures.within in
    let less : length c.skip_bom.result.now < suc (length s) = omega (arith, within) in
    let (m, room, read) = rw c.skip_bom.ensures.rest at (c.in_ok-table.ensures.value (suc (length s)) (λ ns. (ns, [])) place_top less) in
    let top = nodes_of (table_view c.in_ok-table.table) in
    gives_err _ c.from_residual-in_err-table-2.result _ c.in_err-table-2.field-0.0 _ c.from_residual-in_err-table-2.ensures.1 (λ y p. p) λ refused.
    document_is s ∙ ap closed read ∙ c.in_err-table-2.ensures m top [] (close-nodes_of (table_view c.in_ok-table.table)) room refused

pub returns : goal.returns
returns c =
    let s = c.args.s.now in
    let within = c.skip_bom.ensures.within in
    let less : length c.skip_bom.result.now < suc (length s) = omega (arith, within) in
    let (m, room, read) = rw c.skip_bom.ensures.rest at (c.in_ok-table.ensures.value (suc (length s)) (λ ns. (ns, [])) place_top less) in
    let top = nodes_of (table_view c.in_ok-table.table) in
    let ends = c.in_ok-table-2.ensures m top [] (close-nodes_of (table_view c.in_ok-table.table)) room in
    document_is s ∙ ap closed read ∙ ends_none [] m (top, []) c.in_ok-table.rest.now (table_view c.in_ok-table-2.table) c.in_ok-table-2.after_last (sym c.is_some.ensures ∙ c.if-is_some.false) ends
