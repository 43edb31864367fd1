use Rattle.std.proofs.lemmas.Result.{err_from_is_err_and}
use Rattle.cbsrun_lines.proofs.Writers.{untouched}
use Rattle.cbsrun_lines.specs.Writers.{IsUntouched}
use Rattle.cbsrun_commands.proofs.Endings.{stops_as}
use Rattle.cbsrun_commands.proofs.report.print_load.Goals as goal

pub returns-in_err-report-clause-printed : goal.returns-in_err-report-clause-printed
returns-in_err-report-clause-printed g c =
    let p = err_from_is_err_and c.from_residual.result c.from_residual.ensures.1 in
    rw (p.1, p.2) (untouched _)

pub returns-in_err-loads-clause-printed : goal.returns-in_err-loads-clause-printed
returns-in_err-loads-clause-printed g c =
    let p = err_from_is_err_and c.from_residual-in_err-loads.result c.from_residual-in_err-loads.ensures.1 in
    rw (p.1, p.2) (untouched _)

pub returns-in_err-print_report-clause-printed : goal.returns-in_err-print_report-clause-printed
returns-in_err-print_report-clause-printed g c =
    let p = err_from_is_err_and c.from_residual-in_err-print_report.result c.from_residual-in_err-print_report.ensures.1 in
    let told = rw (c.all_in_time-in_time.ensures, c.in_ok-report.ensures.leaves) at c.in_ok-loads.ensures in
    rw (p.1, p.2) (stops_as _ _ (λ t e. (
      (c.in_ok-report.report, c.in_ok-loads.loads.items, c.in_ok-report.ensures.report, told, rw c.deref.ensures.value at e),
      c.in_ok-report.ensures.lawful,
    )) IsUntouched _ _ _ c.in_err-print_report.ensures)

pub returns-clause-printed : goal.returns-clause-printed
returns-clause-printed g c =
    let p = c.in_ok-print_report.ensures in
    let told = rw (c.all_in_time-in_time.ensures, c.in_ok-report.ensures.leaves) at c.in_ok-loads.ensures in
    let wrote = p.1 in (
      p.0,
      (
        (c.in_ok-report.report, c.in_ok-loads.loads.items, c.in_ok-report.ensures.report, told, rw c.deref.ensures.value at wrote),
        c.in_ok-report.ensures.lawful,
      ),
      p.2,
    )

pub returns-clause-answer : goal.returns-clause-answer
returns-clause-answer g c = (c.in_ok-report.report, c.in_ok-report.ensures.report, c.all_in_time-in_time.ensures)
