use Rattle.std.proofs.Common.{arith}
use Rattle.std.proofs.lemmas.Grind.{common_steps}
use Rattle.cbsrun_svg.specs.Rows.{line_text}
use Rattle.cbsrun_svg.proofs.row.append_line.Goals as goal

pub returns : goal.returns
unfolding line_text
returns c = grind (arith, common_steps)
