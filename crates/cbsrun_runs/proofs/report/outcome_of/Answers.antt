use Rattle.std.proofs.Common.{◌≡◌, ◌∙◌, ap, map}
use Rattle.cbs_rate.specs.Rate.{Rate}
use Rattle.cbsrun_figures.specs.Tallies.{HasSeen, budgets}
use Rattle.cbsrun_runs.proofs.Runs.{same_figures}
use Rattle.cbsrun_runs.proofs.report.outcome_of.Given as given
use Rattle.cbsrun_runs.proofs.report.outcome_of.Goals as goal

-- the report has seen the steps of the run
abbrev has_seen : (g : given.Over) (c : goal.In_ok-figures g) → HasSeen c.in_ok-report.report c.show-shown.new.view.view (g.R.Run.run c.args.run.now).seen
has_seen g c = rw c.new-telling.ensures at (c.in_ok-end.ensures.seen (c.new-telling.result, c.args.progress.now)
    (rw c.new-telling.ensures c.in_ok-report.ensures.none))

pub returns-clause-figures : goal.returns-clause-figures
returns-clause-figures g c =
    let run = g.R.Run.run c.args.run.now in
    let rates : budgets c.in_ok-report.report ≡ map (λ (r : Rate). r.budget) run.plan.rates =
    c.in_ok-report.ensures.servers ∙ ap (λ p. map (λ (r : Rate). r.budget) p.rates) c.plan.ensures in
    same_figures _ _ _ _ run.seen c.in_ok-figures.figures.items rates c.in_ok-end.ensures.end
    (c.in_ok-figures.ensures c.in_ok-report.report run.seen (has_seen g c))

pub returns-clause-idle : goal.returns-clause-idle
returns-clause-idle g c = c.idle-idle.ensures c.in_ok-report.report (g.R.Run.run c.args.run.now).seen (has_seen g c)
