use Rattle.std.proofs.Common.{arith}
use Rattle.cbs_live.proofs.Powers.{power_found}
use Rattle.cbs_live.proofs.spread.power_of.Goals as goal

pub returns-clause-power : goal.returns-clause-power
returns-clause-power c = power_found c.args.number (omega arith)
