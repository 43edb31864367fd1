use Rattle.std.proofs.Common.{arith}
use Rattle.std.proofs.lemmas.Grind.{common_steps}
use Rattle.cbsrun_entries.specs.Sources.{spelled_by}
use Rattle.cbsrun_entries.proofs.source.spelled_by.Goals as goal

pub returns-clause-value : goal.returns-clause-value
unfolding spelled_by
returns-clause-value c = grind (arith, common_steps)

pub returns-clause-lawful : goal.returns-clause-lawful
unfolding spelled_by
returns-clause-lawful c = grind (arith, common_steps)
