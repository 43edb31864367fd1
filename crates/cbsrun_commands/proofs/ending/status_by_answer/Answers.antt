use Rattle.cbsrun_lines.proofs.Writers.{untouched}
use Rattle.cbsrun_commands.proofs.ending.status_by_answer.Goals as goal

pub returns-in-Ok : goal.returns-in-Ok
returns-in-Ok g c = rw c.in-Ok.is (c.status_done.ensures, untouched _)
