use Rattle.std.proofs.Common.{arith}
use Rattle.std.proofs.lemmas.Grind.{common_steps}
use Rattle.cbsrun_loads.specs.TopTables.{spelled_by}
use Rattle.cbsrun_loads.proofs.top.spelled_by.Goals as goal

pub returns-clause-value : goal.returns-clause-value
unfolding spelled_by
returns-clause-value c = grind (arith, common_steps)

pub returns-clause-backlog : goal.returns-clause-backlog
returns-clause-backlog c = c.in_ok-backlog.ensures.bounds

pub returns-clause-until : goal.returns-clause-until
returns-clause-until c = c.in_ok-until.ensures.bounds

pub returns-clause-sources : goal.returns-clause-sources
returns-clause-sources c = grind (arith, common_steps)

pub returns-in_err-bound-clause-value : goal.returns-in_err-bound-clause-value
unfolding spelled_by
returns-in_err-bound-clause-value c = grind (arith, common_steps)

pub returns-in_err-backlog-clause-value : goal.returns-in_err-backlog-clause-value
unfolding spelled_by
returns-in_err-backlog-clause-value c = grind (arith, common_steps)

pub returns-in_err-until-clause-value : goal.returns-in_err-until-clause-value
unfolding spelled_by
returns-in_err-until-clause-value c = grind (arith, common_steps)

pub returns-in_err-seed-clause-value : goal.returns-in_err-seed-clause-value
unfolding spelled_by
returns-in_err-seed-clause-value c = grind (arith, common_steps)

pub returns-in_err-sized-clause-value : goal.returns-in_err-sized-clause-value
unfolding spelled_by
returns-in_err-sized-clause-value c = grind (arith, common_steps)
