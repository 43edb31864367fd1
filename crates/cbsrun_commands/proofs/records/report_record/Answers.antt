use Rattle.std.proofs.lemmas.Result.{err_from_is_err_and}
use Rattle.cbsrun_lines.proofs.Writers.{untouched}
use Rattle.cbsrun_lines.specs.Writers.{IsUntouched}
use Rattle.cbsrun_commands.proofs.Endings.{stops_as}
use Rattle.cbsrun_commands.proofs.records.report_record.Goals as goal

pub returns-in_err-record : goal.returns-in_err-record
returns-in_err-record g c =
    let p = err_from_is_err_and c.from_residual.result c.from_residual.ensures.1 in
    rw (p.1, p.2) (c.in_err-record.ensures, untouched _)

pub returns-in_err-print_run : goal.returns-in_err-print_run
returns-in_err-print_run g c =
    let p = err_from_is_err_and c.from_residual-in_err-print_run.result c.from_residual-in_err-print_run.ensures.1 in
    rw (p.1, p.2) (
      c.in_ok-record.record,
      c.in_ok-record.ensures,
      stops_as _ _ (λ t h. h) IsUntouched _ _ _ c.in_err-print_run.ensures,
    )

pub returns : goal.returns
returns g c =
    let p = c.in_ok-print_run.ensures in
    (c.in_ok-record.record, p.0, c.in_ok-record.ensures, p.1, p.2)
