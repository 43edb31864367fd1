use Rattle.std.proofs.Common.{rules, arith}
use Rattle.std.proofs.lemmas.Grind.{common_steps}
use Rattle.cbs_rules.proofs.setup.Setup.admit.Goals as goal

pub returns-in_err-server-clause-lawful : goal.returns-in_err-server-clause-lawful
returns-in_err-server-clause-lawful c = search rules

pub invariant_of-self-2 : goal.invariant_of-self-2
invariant_of-self-2 c = grind (arith, common_steps)

pub returns-clause-lawful : goal.returns-clause-lawful
returns-clause-lawful c = search rules
