use Rattle.std.proofs.Common.{arith}
use Rattle.std.proofs.lemmas.Grind.{elements}
use Rattle.cbs_rules.proofs.modes.Modes.get.Goals as goal

pub returns : goal.returns
returns c = grind (arith, elements)
