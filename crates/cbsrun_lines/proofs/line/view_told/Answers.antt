use Rattle.std.proofs.Common.{arith}
use Rattle.std.proofs.lemmas.Grind.{common_steps}
use Rattle.cbsrun_lines.proofs.line.view_told.Goals as goal

pub returns-in-NotAccepted : goal.returns-in-NotAccepted
returns-in-NotAccepted c = grind (arith, common_steps)
