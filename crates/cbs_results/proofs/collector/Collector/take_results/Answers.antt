use Rattle.std.proofs.Common.{rules, arith}
use Rattle.std.proofs.lemmas.Grind.{common_steps}
use Rattle.cbs_results.proofs.collector.Collector.take_results.Goals as goal

pub returns-then-index-len-clause-refusal : goal.returns-then-index-len-clause-refusal
returns-then-index-len-clause-refusal g c = search rules

pub returns-clause-ok : goal.returns-clause-ok
returns-clause-ok g c = grind (arith, common_steps)

pub returns-clause-handed : goal.returns-clause-handed
returns-clause-handed g c = grind (arith, common_steps)

pub returns-clause-refused : goal.returns-clause-refused
returns-clause-refused g c = grind (arith, common_steps)
