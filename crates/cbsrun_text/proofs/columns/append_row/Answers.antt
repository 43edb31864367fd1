use Rattle.std.proofs.Common.{◌∙◌, ◌++◌, ap, string_bytes, sym, arith}
use Rattle.std.specs.List.{flat_map, range_with_len}
use Rattle.cbsrun_text.specs.Columns.{cell_in, cell_text}
use Rattle.cbsrun_text.proofs.Texts.{grown, numbered_more}
use Rattle.cbsrun_text.proofs.Widths.{width_at}
use Rattle.cbsrun_text.proofs.columns.append_row.Goals as goal

pub loop-column-preserved : goal.loop-column-preserved
loop-column-preserved c rows are =
    let row = c.args.row.now in
    let f = cell_text rows row in
    let column = c.loop-column.column in
    let before = string_bytes c.loop-column.text in
    let width = width_at rows c.args.widths.now column 0 are (omega (arith, c.loop-column-test.true, c.requires)) in
    let wrote = c.in_ok-append_cell.ensures ∙ ap (λ w. before ++ cell_in w row column) width in
    grown _ _ _ (flat_map f (range_with_len 0 column)) (f column) wrote (c.loop-column.invariant rows are)
    ∙ ap (λ t. string_bytes c.args.text.now ++ t) (sym (numbered_more f column))
