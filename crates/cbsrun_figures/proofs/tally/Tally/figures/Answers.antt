use Rattle.std.proofs.Common.{ap, ◌∙◌}
use Rattle.std.proofs.lemmas.Result.{IfOk-weaker}
use Rattle.cbsrun_figures.proofs.SumSteps.{throttled_ticks_until}
use Rattle.cbsrun_figures.proofs.tally.Tally.figures.Goals as goal

pub returns : goal.returns
returns g c = IfOk-weaker c.figures.result _ _ (λ figures tells own is.
    let inside = c.self.view_is ∙ is in
    let throttled_ticks = ap (λ k. k.throttled_ticks) inside in
    tells c.args.self.now.budget own (ap (λ k. k.jobs) inside) (ap (λ k. k.sums) inside)
    (c.until-throttled.ensures ∙ rw throttled_ticks (throttled_ticks_until own c.args.now))) c.figures.ensures
