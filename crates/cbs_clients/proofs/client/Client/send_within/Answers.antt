use Rattle.std.proofs.Common.{arith}
use Rattle.std.proofs.lemmas.Grind.{common_steps}
use Rattle.cbs_clients.proofs.client.Client.send_within.Goals as goal

pub loop-try-init : goal.loop-try-init
loop-try-init g c = grind (arith, common_steps)

pub loop-try-preserved : goal.loop-try-preserved
loop-try-preserved g c = grind (arith, common_steps)

pub returns : goal.returns
returns g c = grind (arith, common_steps)
