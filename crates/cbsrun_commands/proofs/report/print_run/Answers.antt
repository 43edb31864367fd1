use Rattle.std.proofs.Common.{[], refl}
use Rattle.cbsrun_lines.proofs.Writers.{untouched}
use Rattle.cbsrun_commands.proofs.Endings.{prints_as}
use Rattle.std.proofs.lemmas.Result.{err_from_is_err_and}
use Rattle.cbsrun_commands.proofs.report.print_run.Goals as goal

pub returns-in_err-report : goal.returns-in_err-report
returns-in_err-report g c =
    let p = err_from_is_err_and c.from_residual.result c.from_residual.ensures.1 in
    rw (p.1, p.2) (untouched _)

pub returns : goal.returns
returns g c =
    prints_as _ _ (λ t e. (c.in_ok-report.report, [], c.in_ok-report.ensures.report, refl, e)) c.print_report.result _ _ c.print_report.ensures
