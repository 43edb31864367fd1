use Rattle.cbsrun_commands.specs.Sweeps.{sweep_command, AreRunsInTime}
use Rattle.cbsrun_commands.proofs.Endings.{ends_by_answer}
use Rattle.cbsrun_commands.proofs.sweeps.sweep_bytes_within.Goals as goal

pub returns : goal.returns
returns g c =
    rw (← c.is_closed.ensures) (ends_by_answer (sweep_command c.args.asked c.args.name.now) (AreRunsInTime c.args.asked.seeds c.args.name.now)
    c.args.asked.strict c.args.name.now c.args.bytes.now _ _ _ _ _ c.sweep-ended.result c.status_by_answer.result
    c.sweep-ended.ensures.printed c.sweep-ended.ensures.answer c.status_by_answer.ensures)
