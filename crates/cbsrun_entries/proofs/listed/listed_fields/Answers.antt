use Rattle.std.proofs.lemmas.Result.{err_from_is_err_and}
use Rattle.cbsrun_entries.specs.Sources.{listed_fields}
use Rattle.cbsrun_entries.proofs.listed.listed_fields.Goals as goal

pub returns-in_err-server-clause-value : goal.returns-in_err-server-clause-value
unfolding listed_fields
returns-in_err-server-clause-value c =
    let p = err_from_is_err_and c.from_residual.result c.from_residual.ensures.1 in
    rw (p.1, p.2, ← c.in_err-server.ensures)

pub returns-in_err-units-clause-value : goal.returns-in_err-units-clause-value
unfolding listed_fields
returns-in_err-units-clause-value c =
    let p = err_from_is_err_and c.from_residual-in_err-units.result c.from_residual-in_err-units.ensures.1 in
    rw (p.1, p.2, ← c.in_ok-server.ensures, ← c.in_err-units.ensures)

pub returns-in_err-within-clause-value : goal.returns-in_err-within-clause-value
unfolding listed_fields
returns-in_err-within-clause-value c =
    let p = err_from_is_err_and c.from_residual-in_err-within.result c.from_residual-in_err-within.ensures.1 in
    rw (p.1, p.2, ← c.in_ok-server.ensures, ← c.in_ok-units.ensures, ← c.in_err-within.ensures)

pub returns-in_err-overrun-clause-value : goal.returns-in_err-overrun-clause-value
unfolding listed_fields
returns-in_err-overrun-clause-value c =
    let p = err_from_is_err_and c.from_residual-in_err-overrun.result c.from_residual-in_err-overrun.ensures.1 in
    rw (p.1, p.2, ← c.in_ok-server.ensures, ← c.in_ok-units.ensures, ← c.in_ok-within.ensures, ← c.in_err-overrun.ensures)

pub returns-in_err-jitter-clause-value : goal.returns-in_err-jitter-clause-value
unfolding listed_fields
returns-in_err-jitter-clause-value c =
    let p = err_from_is_err_and c.from_residual-in_err-jitter.result c.from_residual-in_err-jitter.ensures.1 in
    rw (p.1, p.2, ← c.in_ok-server.ensures, ← c.in_ok-units.ensures, ← c.in_ok-within.ensures, ← c.in_ok-overrun.ensures, ← c.in_err-jitter.ensures)
