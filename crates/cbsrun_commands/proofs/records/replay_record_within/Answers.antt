use Rattle.cbsrun_commands.specs.Records.{record_lines}
use Rattle.cbsrun_commands.proofs.Endings.{ends}
use Rattle.cbsrun_commands.proofs.records.replay_record_within.Goals as goal

pub returns : goal.returns
returns g c =
    rw (← c.is_closed.ensures) (ends record_lines c.args.name.now c.args.bytes.now _ _ _ _ _ c.write_steps-ended.result c.status_of.result
    c.write_steps-ended.ensures c.status_of.ensures)
