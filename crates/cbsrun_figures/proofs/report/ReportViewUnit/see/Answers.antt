use Rattle.std.proofs.Common.{◌∙◌, sym}
use Rattle.cbsrun_figures.proofs.ReportSteps.{ok_both, sees_own}
use Rattle.cbsrun_figures.proofs.report.ReportViewUnit.see.Goals as goal

pub returns-in-Some-clause-saw : goal.returns-in-Some-clause-saw
returns-in-Some-clause-saw g c =
    ok_both c.add.result c.add.ensures.adds c.add.ensures.idle (λ adds idle first all was.
    sees_own first.0 c.args.self.now c.add.new.self c.args.seen c.in-Some.server (sym c.server.ensures ∙ c.in-Some.is) adds idle all was)
