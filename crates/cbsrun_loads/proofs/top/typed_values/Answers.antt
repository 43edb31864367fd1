use Rattle.std.proofs.lemmas.Result.{err_from_is_err_and}
use Rattle.cbsrun_loads.specs.TopTables.{typed_values}
use Rattle.cbsrun_loads.proofs.top.typed_values.Goals as goal

pub returns-in_err-with_keys : goal.returns-in_err-with_keys
unfolding typed_values
returns-in_err-with_keys c =
    let p = err_from_is_err_and c.from_residual.result c.from_residual.ensures.1 in
    rw (p.1, p.2, ← c.in_err-with_keys.ensures)

pub returns-in_err-tick : goal.returns-in_err-tick
unfolding typed_values
returns-in_err-tick c =
    let p = err_from_is_err_and c.from_residual-in_err-tick.result c.from_residual-in_err-tick.ensures.1 in
    rw (p.1, p.2, ← c.in_ok-with_keys.ensures, ← c.in_err-tick.ensures)

pub returns-in_err-bound : goal.returns-in_err-bound
unfolding typed_values
returns-in_err-bound c =
    let p = err_from_is_err_and c.from_residual-in_err-bound.result c.from_residual-in_err-bound.ensures.1 in
    rw (p.1, p.2, ← c.in_ok-with_keys.ensures, ← c.in_ok-tick.ensures, ← c.in_err-bound.ensures)

pub returns-in_err-backlog : goal.returns-in_err-backlog
unfolding typed_values
returns-in_err-backlog c =
    let p = err_from_is_err_and c.from_residual-in_err-backlog.result c.from_residual-in_err-backlog.ensures.1 in
    rw (p.1, p.2, ← c.in_ok-with_keys.ensures, ← c.in_ok-tick.ensures, ← c.in_ok-bound.ensures, ← c.in_err-backlog.ensures)

pub returns-in_err-until : goal.returns-in_err-until
unfolding typed_values
returns-in_err-until c =
    let p = err_from_is_err_and c.from_residual-in_err-until.result c.from_residual-in_err-until.ensures.1 in
    rw (p.1, p.2, ← c.in_ok-with_keys.ensures, ← c.in_ok-tick.ensures, ← c.in_ok-bound.ensures, ← c.in_ok-backlog.ensures, ← c.in_err-until.ensures)

pub returns-in_err-seed : goal.returns-in_err-seed
unfolding typed_values
returns-in_err-seed c =
    let p = err_from_is_err_and c.from_residual-in_err-seed.result c.from_residual-in_err-seed.ensures.1 in
    rw (p.1, p.2, ← c.in_ok-with_keys.ensures, ← c.in_ok-tick.ensures, ← c.in_ok-bound.ensures, ← c.in_ok-backlog.ensures, ← c.in_ok-until.ensures, ← c.in_err-seed.ensures)

pub returns-in_err-servers : goal.returns-in_err-servers
unfolding typed_values
returns-in_err-servers c =
    let p = err_from_is_err_and c.from_residual-in_err-servers.result c.from_residual-in_err-servers.ensures.1 in
    rw (p.1, p.2, ← c.in_ok-with_keys.ensures, ← c.in_ok-tick.ensures, ← c.in_ok-bound.ensures, ← c.in_ok-backlog.ensures, ← c.in_ok-until.ensures, ← c.in_ok-seed.ensures, ← c.in_err-servers.ensures)

pub returns-in_err-sources : goal.returns-in_err-sources
unfolding typed_values
returns-in_err-sources c =
    let p = err_from_is_err_and c.from_residual-in_err-sources.result c.from_residual-in_err-sources.ensures.1 in
    rw (p.1, p.2, ← c.in_ok-with_keys.ensures, ← c.in_ok-tick.ensures, ← c.in_ok-bound.ensures, ← c.in_ok-backlog.ensures, ← c.in_ok-until.ensures, ← c.in_ok-seed.ensures, ← c.in_ok-servers.ensures, ← c.in_err-sources.ensures)
