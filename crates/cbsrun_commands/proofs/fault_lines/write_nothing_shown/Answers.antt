use Rattle.cbsrun_commands.specs.FaultLines.{nothing_shown_line}
use Rattle.cbsrun_commands.proofs.fault_lines.write_nothing_shown.Goals as goal

pub returns-clause-ok : goal.returns-clause-ok
unfolding nothing_shown_line
returns-clause-ok g c = rw (c.format-from.ensures.text, c.format-end.ensures.text) at c.write_pieces.ensures.ok

pub returns-clause-err : goal.returns-clause-err
unfolding nothing_shown_line
returns-clause-err g c = rw (c.format-from.ensures.text, c.format-end.ensures.text) at c.write_pieces.ensures.err
