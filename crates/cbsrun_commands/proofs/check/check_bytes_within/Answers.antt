use Rattle.cbsrun_commands.specs.Outputs.{check_command, ArePromised}
use Rattle.cbsrun_commands.proofs.Endings.{ends_check}
use Rattle.cbsrun_commands.proofs.check.check_bytes_within.Goals as goal

pub returns : goal.returns
returns g c =
    rw (← c.is_closed.ensures) (ends_check (check_command c.args.form c.args.name.now) ArePromised c.args.strict c.args.name.now c.args.bytes.now
    _ _ _ _ _ c.check-ended.result c.status_of_check.result c.check-ended.ensures.printed c.check-ended.ensures.answer c.status_of_check.ensures)
