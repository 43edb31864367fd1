use Rattle.std.proofs.Common.{arith}
use Rattle.std.proofs.lemmas.Grind.{common_steps}
use Rattle.cbsrun_faults.proofs.refused.plan_of.Goals as goal

pub loop-entry-preserved : goal.loop-entry-preserved
loop-entry-preserved c = grind (arith, common_steps)

pub returns-in_default-clause-value : goal.returns-in_default-clause-value
returns-in_default-clause-value c = grind (arith, common_steps)

pub returns-then-is_err-clause-value : goal.returns-then-is_err-clause-value
returns-then-is_err-clause-value c = grind (arith, common_steps)

pub returns-clause-value : goal.returns-clause-value
returns-clause-value c = grind (arith, common_steps)
