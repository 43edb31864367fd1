use Rattle.cbsrun_commands.specs.Outputs.{task_report}
use Rattle.cbsrun_commands.proofs.Endings.{ends}
use Rattle.cbsrun_commands.proofs.report.report_bytes_within.Goals as goal

pub returns : goal.returns
returns g c =
    rw (← c.is_closed.ensures) (ends (task_report c.args.form c.args.name.now) c.args.name.now c.args.bytes.now _ _ _ _ _ c.report_tasks-ended.result c.status_of.result
    c.report_tasks-ended.ensures c.status_of.ensures)
