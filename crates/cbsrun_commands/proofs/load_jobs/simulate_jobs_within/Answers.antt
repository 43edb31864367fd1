use Rattle.cbsrun_commands.specs.Outputs.{jobs_command}
use Rattle.cbsrun_commands.proofs.Endings.{ends}
use Rattle.cbsrun_commands.proofs.load_jobs.simulate_jobs_within.Goals as goal

pub returns : goal.returns
returns g c =
    rw (← c.is_closed.ensures) (ends (jobs_command c.args.changes) c.args.name.now c.args.bytes.now _ _ _ _ _ c.write_jobs-ended.result c.status_of.result
    c.write_jobs-ended.ensures c.status_of.ensures)
