use Rattle.cbsrun_commands.specs.Outputs.{load_report, IsInTime}
use Rattle.cbsrun_commands.proofs.Endings.{ends_by_answer}
use Rattle.cbsrun_commands.proofs.report.simulate_bytes_within.Goals as goal

pub returns : goal.returns
returns g c =
    rw (← c.is_closed.ensures) (ends_by_answer (load_report c.args.asked.changes c.args.asked.form c.args.name.now) (IsInTime c.args.name.now)
    c.args.asked.strict c.args.name.now c.args.bytes.now _ _ _ _ _ c.report_load-ended.result c.status_by_answer.result
    c.report_load-ended.ensures.printed c.report_load-ended.ensures.answer c.status_by_answer.ensures)
