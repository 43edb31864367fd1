use Rattle.std.proofs.lemmas.Result.{err_from_is_err_and}
use Rattle.cbsrun_lines.proofs.Writers.{untouched}
use Rattle.cbsrun_lines.specs.Writers.{IsUntouched}
use Rattle.cbsrun_commands.proofs.Endings.{stops_as, told_of}
use Rattle.cbsrun_commands.proofs.report.report_tasks.Goals as goal

pub returns-in_err-tasks : goal.returns-in_err-tasks
returns-in_err-tasks g c =
    let p = err_from_is_err_and c.from_residual.result c.from_residual.ensures.1 in
    rw (p.1, p.2) (c.in_err-tasks.ensures, untouched _)

pub returns-in_err-print_run : goal.returns-in_err-print_run
returns-in_err-print_run g c =
    let p = err_from_is_err_and c.from_residual-in_err-print_run.result c.from_residual-in_err-print_run.ensures.1 in
    rw (p.1, p.2) (
      c.in_ok-tasks.tasks,
      c.in_ok-tasks.ensures,
      stops_as _ _ (λ t h. told_of c.args.form c.args.name.now _ c.in_ok-tasks.tasks t c.of-replay.ensures h) IsUntouched _ _ _ c.in_err-print_run.ensures,
    )

pub returns : goal.returns
returns g c =
    let p = c.in_ok-print_run.ensures in
    let told = told_of c.args.form c.args.name.now _ c.in_ok-tasks.tasks p.0 c.of-replay.ensures p.1 in
    (c.in_ok-tasks.tasks, p.0, c.in_ok-tasks.ensures, told, p.2)
