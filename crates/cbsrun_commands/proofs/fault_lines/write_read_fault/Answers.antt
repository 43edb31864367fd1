use Rattle.cbsrun_commands.specs.FaultLines.{read_line}
use Rattle.cbsrun_commands.proofs.fault_lines.write_read_fault.Goals as goal

pub returns-clause-ok : goal.returns-clause-ok
unfolding read_line
returns-clause-ok g c = rw (c.format-number.ensures.text, c.number.ensures, c.name-name.ensures) at c.write_pieces.ensures.ok
