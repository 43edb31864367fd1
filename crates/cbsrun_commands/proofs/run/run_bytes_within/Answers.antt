use Rattle.cbsrun_commands.specs.Verbs.{done, refused, stopped}
use Rattle.cbsrun_lines.proofs.Writers.{tries, untouched}
use Rattle.cbsrun_commands.proofs.run.run_bytes_within.Goals as goal

pub returns-in-Err : goal.returns-in-Err
returns-in-Err g c = refused c.in-Err.fault c.in-Err.ensures (untouched _)
    (tries c.write_file_fault-written.result _ _ _ c.write_file_fault-written.ensures.ok c.write_file_fault-written.ensures.err)

pub returns-in-Ok-run_file : goal.returns-in-Ok-run_file
returns-in-Ok-run_file g c = done c.in-Ok.file c.in-Ok.ensures c.in-Ok-run_file.ensures (untouched _)

pub returns-in-Err-run_file : goal.returns-in-Err-run_file
returns-in-Err-run_file g c =
    stopped c.in-Ok.file c.in-Err-run_file.error c.in-Ok.ensures c.in-Err-run_file.ensures
    (tries c.write_run_fault-written.result _ _ _ c.write_run_fault-written.ensures.ok c.write_run_fault-written.ensures.err)
