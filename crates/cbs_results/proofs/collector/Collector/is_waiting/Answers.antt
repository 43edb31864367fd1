use Rattle.std.proofs.Common.{arith, rules}
use Rattle.std.proofs.lemmas.Grind.{common_steps}
use Rattle.cbs_results.proofs.collector.Collector.is_waiting.Goals as goal

pub returns-then-is_waiting-clause-some : goal.returns-then-is_waiting-clause-some
returns-then-is_waiting-clause-some g c = grind (arith, common_steps)

pub loop-shelf-preserved : goal.loop-shelf-preserved
loop-shelf-preserved g c = grind (arith, common_steps)

pub returns-clause-none : goal.returns-clause-none
returns-clause-none g c = search rules
