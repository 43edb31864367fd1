use Rattle.std.proofs.Common.{arith}
use Rattle.std.proofs.lemmas.Grind.{common_steps}
use Rattle.cbs_clients.proofs.client.Client.end_within.Goals as goal

pub loop-try-preserved : goal.loop-try-preserved
loop-try-preserved g c = grind (arith, common_steps)

pub returns : goal.returns
returns g c = grind (arith, common_steps)
