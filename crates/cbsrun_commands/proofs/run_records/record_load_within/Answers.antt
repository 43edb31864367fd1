use Rattle.cbsrun_commands.specs.Records.{load_record, IsNotRecorded}
use Rattle.cbsrun_commands.proofs.Endings.{ends_or_lacks}
use Rattle.cbsrun_commands.proofs.run_records.record_load_within.Goals as goal

pub returns : goal.returns
returns g c =
    rw (← c.is_closed.ensures) (ends_or_lacks (load_record c.args.changes) IsNotRecorded c.args.name.now c.args.bytes.now _ _ _ _ _ c.record_load-ended.result
    c.status_or_lack.result c.record_load-ended.ensures c.status_or_lack.ensures)
