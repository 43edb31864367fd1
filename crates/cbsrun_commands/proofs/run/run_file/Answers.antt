use Rattle.cbsrun_commands.proofs.run.run_file.Goals as goal

pub returns-in-Replay : goal.returns-in-Replay
returns-in-Replay g c = rw c.in-Replay.is c.replay.ensures.written
