use Rattle.std.proofs.Common.{arith}
use Rattle.cbsrun_sizing.specs.ServerLoads.{most_charged}
use Rattle.cbsrun_sizing.proofs.Charges.{sum_more}
use Rattle.cbsrun_sizing.proofs.server_load.all_charges.Goals as goal

pub loop-server-preserved : goal.loop-server-preserved
loop-server-preserved c = record {
  sum = omega (arith, sum_more (most_charged c.args.sources.now) c.loop-server.server);
  few = omega arith;
}
