use Rattle.std.proofs.Common.{rules, arith}
use Rattle.std.proofs.lemmas.Grind.{common_steps}
use Rattle.cbs_results.proofs.collector.Collector.take.Goals as goal

pub returns-then-index-len-clause-refusal : goal.returns-then-index-len-clause-refusal
returns-then-index-len-clause-refusal g c = search rules

pub returns-in-Some-clause-exact : goal.returns-in-Some-clause-exact
returns-in-Some-clause-exact g c = grind (arith, common_steps)

pub returns-in-Some-clause-refusal : goal.returns-in-Some-clause-refusal
returns-in-Some-clause-refusal g c = grind (arith, common_steps)

pub take_expected-requires : goal.take_expected-requires
take_expected-requires g c = grind (arith, common_steps)

pub returns-clause-exact : goal.returns-clause-exact
returns-clause-exact g c = grind (arith, common_steps)

pub returns-clause-refusal : goal.returns-clause-refusal
returns-clause-refusal g c = grind (arith, common_steps)
