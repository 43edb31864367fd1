use Rattle.std.proofs.Common.{arith}
use Rattle.std.proofs.lemmas.Grind.{common_steps}
use Rattle.cbsrun_sizing.proofs.shares.left_over.Goals as goal

pub returns : goal.returns
returns c = grind (arith, common_steps)
