use Rattle.cbsrun_commands.specs.Outputs.{size_command, IsNotSized}
use Rattle.cbsrun_commands.proofs.Endings.{ends_or_lacks}
use Rattle.cbsrun_commands.proofs.size.size_bytes_within.Goals as goal

pub returns : goal.returns
returns g c =
    rw (← c.is_closed.ensures) (ends_or_lacks (size_command c.args.all) (IsNotSized c.args.all) c.args.name.now c.args.bytes.now _ _ _ _ _ c.size-ended.result
    c.status_or_lack.result c.size-ended.ensures c.status_or_lack.ensures)
