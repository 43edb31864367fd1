use Rattle.std.proofs.Common.{arith}
use Rattle.std.proofs.lemmas.Grind.{common_steps}
use Rattle.cbsrun_svg.specs.Rows.{bars_text}
use Rattle.cbsrun_svg.proofs.row.append_bars.Goals as goal

pub returns : goal.returns
unfolding bars_text
returns c = grind (arith, common_steps)
