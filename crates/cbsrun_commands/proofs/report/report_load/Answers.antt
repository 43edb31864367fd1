use Rattle.std.proofs.lemmas.Result.{err_from_is_err_and}
use Rattle.cbsrun_lines.proofs.Writers.{untouched}
use Rattle.cbsrun_lines.specs.Writers.{IsUntouched}
use Rattle.cbsrun_commands.proofs.Endings.{stops_as}
use Rattle.cbsrun_commands.proofs.report.report_load.Goals as goal

pub returns-in_err-load-clause-printed : goal.returns-in_err-load-clause-printed
returns-in_err-load-clause-printed g c =
    let p = err_from_is_err_and c.from_residual.result c.from_residual.ensures.1 in
    rw (p.1, p.2) (c.in_err-load.ensures, untouched _)

pub returns-in_err-in_time-clause-printed : goal.returns-in_err-in_time-clause-printed
returns-in_err-in_time-clause-printed g c =
    let p = err_from_is_err_and c.from_residual-in_err-in_time.result c.from_residual-in_err-in_time.ensures.1 in
    rw (p.1, p.2) (
      c.in_ok-load.load,
      c.in_ok-load.ensures,
      stops_as _ _ (λ t h. h) IsUntouched _ _ _ (c.in_err-in_time.ensures.printed),
    )

pub returns-clause-printed : goal.returns-clause-printed
returns-clause-printed g c =
    let p = c.in_ok-in_time.ensures.printed in
    (c.in_ok-load.load, p.0, c.in_ok-load.ensures, p.1, p.2)

pub returns-clause-answer : goal.returns-clause-answer
returns-clause-answer g c = (c.in_ok-load.load, c.in_ok-load.ensures, c.in_ok-in_time.ensures.answer)
