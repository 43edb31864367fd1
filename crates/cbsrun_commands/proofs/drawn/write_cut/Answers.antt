use Rattle.cbsrun_commands.specs.Drawings.{cut_line}
use Rattle.cbsrun_commands.proofs.drawn.write_cut.Goals as goal

pub returns-clause-ok : goal.returns-clause-ok
unfolding cut_line
returns-clause-ok g c = rw (c.format-from.ensures.text, c.format-to.ensures.text) at c.write_pieces.ensures.ok

pub returns-clause-err : goal.returns-clause-err
unfolding cut_line
returns-clause-err g c = rw (c.format-from.ensures.text, c.format-to.ensures.text) at c.write_pieces.ensures.err
