use Rattle.std.proofs.Common.{◌≡◌, ◌≤◌, ap, length, max, sym, take, arith}
use Rattle.std.proofs.lemmas.Grind.{common_steps}
use Rattle.std.proofs.lemmas.List.{take_all}
use Rattle.std.proofs.lemmas.List.Elements.{All-more, All-same, All-weaker}
use Rattle.cbsrun_text.proofs.columns.column_count.Goals as goal

pub loop-row-preserved : goal.loop-row-preserved
loop-row-preserved c =
    let rows = c.args.rows.now in
    let i = c.loop-row.row-index in
    let row = c.row-item.result in
    let here = ap (λ r. length r.items) c.row-item.is in
    let greater : c.max-count.result ≡ max c.loop-row.count c.len.result = grind (arith, common_steps) in
    let before = All-weaker (λ r. length r.items ≤ c.loop-row.count) (λ r. length r.items ≤ c.max-count.result)
    (λ r h. omega (arith, greater, h)) (take i rows) c.loop-row.invariant in
    All-more (λ r. length r.items ≤ c.max-count.result) rows i row c.loop-row-test.true before (omega (arith, greater, here, c.len.ensures, row.ok.0))

pub returns : goal.returns
returns c =
    let rows = c.args.rows.now in
    let i = c.loop-row.row-index in
    All-same (λ r. length r.items ≤ c.loop-row.count) rows (take i rows)
    (sym (take_all i rows (omega (arith, c.loop-row-test.false)))) c.loop-row.invariant
