use Rattle.cbsrun_commands.specs.Records.{record_report}
use Rattle.cbsrun_commands.proofs.Endings.{ends}
use Rattle.cbsrun_commands.proofs.records.report_record_within.Goals as goal

pub returns : goal.returns
returns g c =
    rw (← c.is_closed.ensures) (ends (record_report c.args.form c.args.name.now) c.args.name.now c.args.bytes.now _ _ _ _ _ c.report_record-ended.result c.status_of.result
    c.report_record-ended.ensures c.status_of.ensures)
