use Rattle.std.proofs.Common.{arith}
use Rattle.std.proofs.lemmas.Grind.{elements}
use Rattle.cbs_guarantee.proofs.guarantee.check_overruns.Goals as goal

pub returns-then-all : goal.returns-then-all
returns-then-all c = grind (arith, elements)
