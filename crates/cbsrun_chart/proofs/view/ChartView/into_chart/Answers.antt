use Rattle.std.proofs.Common.{◌≡◌, ◌∙◌, ◌++◌, ◌∷◌, [], append_assoc, ap, sym, length, arith}
use Rattle.std.proofs.lemmas.List.{append-nil, nil_from_length}
use Rattle.std.specs.Vec.Iter.{into_iter_items}
use Rattle.cbsrun_chart.specs.Charts.{Kept}
use Rattle.cbsrun_window.specs.Stretches.{all_of}
use Rattle.cbsrun_chart.proofs.Bars.{chart_seen}
use Rattle.cbsrun_chart.proofs.Rows.{charts_more}
use Rattle.cbsrun_chart.proofs.view.ChartView.into_chart.Goals as goal

pub loop-row-preserved : goal.loop-row-preserved
loop-row-preserved c =
    let l = c.loop-row in
    let i = l.invariant in
    let more = charts_more c.self.inside.window c.args.end l.yielded l.servers.items c.in-Some.row c.in_ok-into_chart.field-0 i.charts
    c.in_ok-into_chart.ensures in
    record {
      count = omega (arith, ap length c.in-Some.ensures.steps.0, c.in-Some.ensures.steps.1, i.count);
      all = i.all ∙ ap (λ xs. l.yielded ++ xs) c.in-Some.ensures.steps.0 ∙ sym (append_assoc l.yielded (c.in-Some.row ∷ []) (into_iter_items c.next.new.self));
      charts = rw c.in_ok-push.ensures.items more;
    }

pub returns-clause-chart : goal.returns-clause-chart
returns-clause-chart c = λ rates seen was.
    let l = c.loop-row in
    let none : into_iter_items l.row-iterator ≡ [] = nil_from_length _ (sym l.invariant.count ∙ c.in-None.ensures.steps.0) in
    let whole : c.args.self.rows ≡ l.yielded = l.invariant.all ∙ (ap (λ xs. l.yielded ++ xs) none ∙ append-nil l.yielded) in
    let window : c.self.inside.window ≡ c.args.self.window = ap (λ (k : Kept). k.window) c.self.view_is in
    let idle : c.self.inside.idle ≡ c.args.self.idle = ap (λ (k : Kept). k.idle) c.self.view_is in
    chart_seen c.args.self.window rates c.args.end seen c.args.self _ was window (c.in_ok-idle.ensures ∙ ap all_of idle)
    (rw (whole, ← window) l.invariant.charts)
