use Rattle.std.proofs.Common.{◌≡◌, ◌∙◌, ap, refl}
use Rattle.std.proofs.lemmas.Result.{IfOk-weaker}
use Rattle.cbsrun_chart.specs.Charts.{Kept, kept_seen, new_kept}
use Rattle.cbsrun_runs.proofs.Drawings.{chart_is, kept_window}
use Rattle.cbsrun_runs.proofs.picture.chart_of.Goals as goal

pub returns-clause-window : goal.returns-clause-window
returns-clause-window g c =
    let run = g.R.Run.run c.args.run.now in
    let view = c.show-shown.new.view.view in
    let kept : view ≡ kept_seen (new_kept c.args.window run.plan.rates) run.seen =
    c.in_ok-end.ensures.seen (c.new-telling.result, c.args.progress.now) refl
    ∙ ap (λ (k : Kept). kept_seen k run.seen)
    (c.new-telling.ensures ∙ c.in_ok-view.ensures ∙ ap (λ p. new_kept c.args.window p.rates) c.plan.ensures) in
    IfOk-weaker c.into_chart.result _ _ (λ chart h. h ∙ kept_window c.args.window run.plan.rates run.seen view kept) c.into_chart.ensures.window

pub returns-clause-chart : goal.returns-clause-chart
returns-clause-chart g c =
    let run = g.R.Run.run c.args.run.now in
    let view = c.show-shown.new.view.view in
    let kept : view ≡ kept_seen (new_kept c.args.window run.plan.rates) run.seen =
    c.in_ok-end.ensures.seen (c.new-telling.result, c.args.progress.now) refl
    ∙ ap (λ (k : Kept). kept_seen k run.seen)
    (c.new-telling.ensures ∙ c.in_ok-view.ensures ∙ ap (λ p. new_kept c.args.window p.rates) c.plan.ensures) in
    IfOk-weaker c.into_chart.result _ _ (λ chart h. chart_is c.args.window run.plan.rates _ run.end run.seen view chart kept
    c.in_ok-end.ensures.end h)
    c.into_chart.ensures.chart
