use Rattle.std.proofs.Common.{arith}
use Rattle.std.proofs.lemmas.Grind.{common_steps}
use Rattle.cbs_core.proofs.servers.Servers.charge.Goals as goal

pub charge_throttled-requires-clause-throttled : goal.charge_throttled-requires-clause-throttled
charge_throttled-requires-clause-throttled g c = grind (arith, common_steps)

pub charge_free-requires-clause-free : goal.charge_free-requires-clause-free
charge_free-requires-clause-free g c = grind (arith, common_steps)
