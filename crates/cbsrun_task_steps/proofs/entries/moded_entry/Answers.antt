use Rattle.std.proofs.lemmas.Result.{err_from_is_err_and}
use Rattle.cbsrun_task_steps.specs.Entries.{moded_entry}
use Rattle.cbsrun_task_steps.proofs.entries.moded_entry.Goals as goal

pub returns-in_err-table : goal.returns-in_err-table
unfolding moded_entry
returns-in_err-table c =
    let p = err_from_is_err_and c.from_residual.result c.from_residual.ensures.1 in
    rw (p.1, p.2, ← c.in_err-table.ensures)

pub returns-in_err-budget : goal.returns-in_err-budget
unfolding moded_entry
returns-in_err-budget c =
    let p = err_from_is_err_and c.from_residual-in_err-budget.result c.from_residual-in_err-budget.ensures.1 in
    rw (p.1, p.2, ← c.in_ok-table.ensures, ← c.in_err-budget.ensures)

pub returns-in_err-period : goal.returns-in_err-period
unfolding moded_entry
returns-in_err-period c =
    let p = err_from_is_err_and c.from_residual-in_err-period.result c.from_residual-in_err-period.ensures.1 in
    rw (p.1, p.2, ← c.in_ok-table.ensures, ← c.in_ok-budget.ensures, ← c.in_err-period.ensures)

pub returns-in_err-mode : goal.returns-in_err-mode
unfolding moded_entry
returns-in_err-mode c =
    let p = err_from_is_err_and c.from_residual-in_err-mode.result c.from_residual-in_err-mode.ensures.1 in
    rw (p.1, p.2, ← c.in_ok-table.ensures, ← c.in_ok-budget.ensures, ← c.in_ok-period.ensures, ← c.in_err-mode.ensures)
