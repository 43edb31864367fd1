use Rattle.std.proofs.lemmas.Result.{err_from_is_err_and}
use Rattle.cbsrun_tasks.specs.TopTables.{typed_values}
use Rattle.cbsrun_tasks.proofs.top.typed_values.Goals as goal

pub returns-in_err-with_keys_of : goal.returns-in_err-with_keys_of
unfolding typed_values
returns-in_err-with_keys_of c =
    let p = err_from_is_err_and c.from_residual.result c.from_residual.ensures.1 in
    rw (p.1, p.2, ← c.in_err-with_keys_of.ensures)

pub returns-in_err-mode : goal.returns-in_err-mode
unfolding typed_values
returns-in_err-mode c =
    let p = err_from_is_err_and c.from_residual-in_err-mode.result c.from_residual-in_err-mode.ensures.1 in
    rw (p.1, p.2, ← c.in_ok-with_keys_of.ensures, ← c.in_err-mode.ensures)

pub returns-in_err-bound : goal.returns-in_err-bound
unfolding typed_values
returns-in_err-bound c =
    let p = err_from_is_err_and c.from_residual-in_err-bound.result c.from_residual-in_err-bound.ensures.1 in
    rw (p.1, p.2, ← c.in_ok-with_keys_of.ensures, ← c.in_ok-mode.ensures, ← c.in_err-bound.ensures)

pub returns-in_err-backlog : goal.returns-in_err-backlog
unfolding typed_values
returns-in_err-backlog c =
    let p = err_from_is_err_and c.from_residual-in_err-backlog.result c.from_residual-in_err-backlog.ensures.1 in
    rw (p.1, p.2, ← c.in_ok-with_keys_of.ensures, ← c.in_ok-mode.ensures, ← c.in_ok-bound.ensures, ← c.in_err-backlog.ensures)

pub returns-in_err-ring : goal.returns-in_err-ring
unfolding typed_values
returns-in_err-ring c =
    let p = err_from_is_err_and c.from_residual-in_err-ring.result c.from_residual-in_err-ring.ensures.1 in
    rw (p.1, p.2, ← c.in_ok-with_keys_of.ensures, ← c.in_ok-mode.ensures, ← c.in_ok-bound.ensures, ← c.in_ok-backlog.ensures, ← c.in_err-ring.ensures)

pub returns-in_err-servers : goal.returns-in_err-servers
unfolding typed_values
returns-in_err-servers c =
    let p = err_from_is_err_and c.from_residual-in_err-servers.result c.from_residual-in_err-servers.ensures.1 in
    rw (p.1, p.2, ← c.in_ok-with_keys_of.ensures, ← c.in_ok-mode.ensures, ← c.in_ok-bound.ensures, ← c.in_ok-backlog.ensures, ← c.in_ok-ring.ensures, ← c.in_err-servers.ensures)

pub returns-in_err-steps : goal.returns-in_err-steps
unfolding typed_values
returns-in_err-steps c =
    let p = err_from_is_err_and c.from_residual-in_err-steps.result c.from_residual-in_err-steps.ensures.1 in
    rw (p.1, p.2, ← c.in_ok-with_keys_of.ensures, ← c.in_ok-mode.ensures, ← c.in_ok-bound.ensures, ← c.in_ok-backlog.ensures, ← c.in_ok-ring.ensures, ← c.in_ok-servers.ensures, ← c.in_err-steps.ensures)
