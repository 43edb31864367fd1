use Rattle.std.proofs.Common.{◌≡◌, ◌<◌, ◌∙◌, [], sym, arith, length}
use Rattle.std.proofs.lemmas.List.{get_or_default}
use Rattle.cbsrun_figures.specs.Tallies.{kept_at, kept_of}
use Rattle.cbsrun_figures.proofs.ReportSteps.{adds_at, ok_both}
use Rattle.cbsrun_figures.proofs.report.Report.add.Goals as goal

pub returns-clause-adds : goal.returns-clause-adds
returns-clause-adds g c =
    let lt : c.from-index.result < length c.self.inside.tallies.items = omega (arith, c.if-index-len.false, c.len.ensures) in
    let here : c.index_mut.result.now ≡ kept_at c.self.inside.tallies.items c.from-index.result =
    c.index_mut.ensures.value ∙ get_or_default c.self.inside.tallies.items c.from-index.result c.index_mut.result.now (kept_of 0 []) lt in
    ok_both c.add.result c.add.ensures.adds c.add.ensures.budget (λ adds budget.
    rw (sym c.from-index.ensures, ← c.self.view_is)
    (adds_at c.self.inside.tallies.items c.from-index.result c.args.seen c.index_mut.result.now c.add.new.self lt here adds budget))
