use Rattle.std.proofs.Common.{arith}
use Rattle.std.proofs.lemmas.Grind.{elements}
use Rattle.cbs_house.proofs.round.all_closed.Goals as goal

pub returns : goal.returns
returns g c = grind (arith, elements)
