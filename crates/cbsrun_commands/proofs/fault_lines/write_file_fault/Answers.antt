use Rattle.cbsrun_commands.specs.FaultLines.{file_line}
use Rattle.cbsrun_commands.proofs.fault_lines.write_file_fault.Goals as goal

pub returns-in-Top-clause-ok : goal.returns-in-Top-clause-ok
unfolding file_line
returns-in-Top-clause-ok g c = rw c.in-Top.is (rw (c.format-number.ensures.text, c.number.ensures, c.name-name.ensures) at c.write_pieces.ensures.ok)

pub returns-in-Server-clause-ok : goal.returns-in-Server-clause-ok
unfolding file_line
returns-in-Server-clause-ok g c = rw c.in-Server.is (rw (
  c.format-number.ensures.text,
  c.number.ensures,
  c.name-name.ensures,
  c.format-i.ensures.text,
) at c.write_pieces-in-Server.ensures.ok)

pub returns-in-Step-clause-ok : goal.returns-in-Step-clause-ok
unfolding file_line
returns-in-Step-clause-ok g c = rw c.in-Step.is (rw (
  c.format-number.ensures.text,
  c.number.ensures,
  c.name-name.ensures,
  c.format-i-in-Step.ensures.text,
) at c.write_pieces-in-Step.ensures.ok)

pub returns-in-Source-clause-ok : goal.returns-in-Source-clause-ok
unfolding file_line
returns-in-Source-clause-ok g c = rw c.in-Source.is (rw (
  c.format-number.ensures.text,
  c.number.ensures,
  c.name-name.ensures,
  c.format-i-in-Source.ensures.text,
) at c.write_pieces-in-Source.ensures.ok)
