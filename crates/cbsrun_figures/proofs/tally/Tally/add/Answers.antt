use Rattle.std.proofs.Common.{◌∙◌, ap, refl}
use Rattle.std.proofs.lemmas.Result.{on_ok_weaker}
use Rattle.cbsrun_figures.specs.Tallies.{Kept, throttled_ticks_with}
use Rattle.cbsrun_figures.proofs.ReportSteps.{kept_step}
use Rattle.cbsrun_figures.proofs.tally.Tally.add.Goals as goal

pub returns-clause-adds : goal.returns-clause-adds
returns-clause-adds g c =
    let i = c.self.inside in
    let k : Kept = record { budget = i.budget; sums = i.sums; throttled_ticks = i.throttled_ticks; jobs = i.jobs } in
    let n : Kept = record { budget = i.budget; sums = c.add.new.self; throttled_ticks = c.add-2.new.self; jobs = c.add-3.new.self } in
    on_ok_weaker c.add-3.result (λ jobs own is.
    kept_step k n c.args.self.now.budget c.args.seen own (c.self.view_is ∙ is) refl c.add.ensures
    (c.add-2.ensures ∙ ap (λ b. throttled_ticks_with b c.args.seen.clock c.args.seen.view i.throttled_ticks) c.begun.ensures) jobs)
    c.add-3.ensures
