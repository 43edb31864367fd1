use Rattle.std.proofs.Common.{arith}
use Rattle.std.proofs.lemmas.Grind.{common_steps}
use Rattle.cbsrun_svg.specs.Rows.{names_text}
use Rattle.cbsrun_svg.proofs.row.append_names.Goals as goal

pub returns : goal.returns
unfolding names_text
returns c = grind (arith, common_steps)
