use Rattle.std.proofs.Common.{arith}
use Rattle.std.proofs.lemmas.Grind.{common_steps}
use Rattle.std.proofs.lemmas.Result.{err_from_is_err_and}
use Rattle.cbsrun_tasks.specs.TopTables.{spelled_by}
use Rattle.cbsrun_tasks.proofs.top.spelled_by.Goals as goal

pub returns-in_err-mode-clause-value : goal.returns-in_err-mode-clause-value
unfolding spelled_by
returns-in_err-mode-clause-value c =
    let p = err_from_is_err_and c.from_residual.result c.from_residual.ensures.1 in
    rw (p.1, p.2, ← c.in_err-mode.ensures)

pub returns-in_err-bound-clause-value : goal.returns-in_err-bound-clause-value
unfolding spelled_by
returns-in_err-bound-clause-value c =
    let p = err_from_is_err_and c.from_residual-in_err-bound.result c.from_residual-in_err-bound.ensures.1 in
    rw (p.1, p.2, ← c.in_ok-mode.ensures, ← c.in_err-bound.ensures)

pub returns-in_err-backlog-clause-value : goal.returns-in_err-backlog-clause-value
unfolding spelled_by
returns-in_err-backlog-clause-value c = grind (arith, common_steps)

pub returns-in_err-ring-clause-value : goal.returns-in_err-ring-clause-value
unfolding spelled_by
returns-in_err-ring-clause-value c = grind (arith, common_steps)

pub returns-clause-value : goal.returns-clause-value
unfolding spelled_by
returns-clause-value c = grind (arith, common_steps)
