use Rattle.std.proofs.Common.{◌∙◌}
use Rattle.cbsrun_lines.proofs.Writers.{untouched}
use Rattle.cbsrun_commands.proofs.Endings.{prints_as}
use Rattle.std.proofs.lemmas.Result.{err_from_is_err_and}
use Rattle.cbsrun_commands.proofs.report.print_report.Goals as goal

pub returns-in_err-text : goal.returns-in_err-text
returns-in_err-text g c =
    let p = err_from_is_err_and c.from_residual.result c.from_residual.ensures.1 in
    rw (p.1, p.2) (untouched _)

pub returns : goal.returns
returns g c = prints_as _ _ (λ t e. e ∙ (c.deref.ensures ∙ c.in_ok-text.ensures)) c.print.result _ _ c.print.ensures
