use Rattle.std.proofs.lemmas.Result.{err_from_is_err_and}
use Rattle.cbsrun_entries.specs.Sources.{source_fields}
use Rattle.cbsrun_entries.proofs.source.source_fields.Goals as goal

pub returns-in_err-table : goal.returns-in_err-table
unfolding source_fields
returns-in_err-table c =
    let p = err_from_is_err_and c.from_residual.result c.from_residual.ensures.1 in
    rw (p.1, p.2, ← c.in_err-table.ensures)

pub returns-in_err-server : goal.returns-in_err-server
unfolding source_fields
returns-in_err-server c =
    let p = err_from_is_err_and c.from_residual-in_err-server.result c.from_residual-in_err-server.ensures.1 in
    rw (p.1, p.2, ← c.in_ok-table.ensures, ← c.in_err-server.ensures)

pub returns-in_err-first : goal.returns-in_err-first
unfolding source_fields
returns-in_err-first c =
    let p = err_from_is_err_and c.from_residual-in_err-first.result c.from_residual-in_err-first.ensures.1 in
    rw (p.1, p.2, ← c.in_ok-table.ensures, ← c.in_ok-server.ensures, ← c.in_err-first.ensures)

pub returns-in_err-every : goal.returns-in_err-every
unfolding source_fields
returns-in_err-every c =
    let p = err_from_is_err_and c.from_residual-in_err-every.result c.from_residual-in_err-every.ensures.1 in
    rw (p.1, p.2, ← c.in_ok-table.ensures, ← c.in_ok-server.ensures, ← c.in_ok-first.ensures, ← c.in_err-every.ensures)

pub returns-in_err-units : goal.returns-in_err-units
unfolding source_fields
returns-in_err-units c =
    let p = err_from_is_err_and c.from_residual-in_err-units.result c.from_residual-in_err-units.ensures.1 in
    rw (p.1, p.2, ← c.in_ok-table.ensures, ← c.in_ok-server.ensures, ← c.in_ok-first.ensures, ← c.in_ok-every.ensures, ← c.in_err-units.ensures)

pub returns-in_err-jobs : goal.returns-in_err-jobs
unfolding source_fields
returns-in_err-jobs c =
    let p = err_from_is_err_and c.from_residual-in_err-jobs.result c.from_residual-in_err-jobs.ensures.1 in
    rw (p.1, p.2, ← c.in_ok-table.ensures, ← c.in_ok-server.ensures, ← c.in_ok-first.ensures, ← c.in_ok-every.ensures, ← c.in_ok-units.ensures, ← c.in_err-jobs.ensures)

pub returns-in_err-within : goal.returns-in_err-within
unfolding source_fields
returns-in_err-within c =
    let p = err_from_is_err_and c.from_residual-in_err-within.result c.from_residual-in_err-within.ensures.1 in
    rw (p.1, p.2, ← c.in_ok-table.ensures, ← c.in_ok-server.ensures, ← c.in_ok-first.ensures, ← c.in_ok-every.ensures, ← c.in_ok-units.ensures, ← c.in_ok-jobs.ensures, ← c.in_err-within.ensures)

pub returns-in_err-overrun : goal.returns-in_err-overrun
unfolding source_fields
returns-in_err-overrun c =
    let p = err_from_is_err_and c.from_residual-in_err-overrun.result c.from_residual-in_err-overrun.ensures.1 in
    rw (p.1, p.2, ← c.in_ok-table.ensures, ← c.in_ok-server.ensures, ← c.in_ok-first.ensures, ← c.in_ok-every.ensures, ← c.in_ok-units.ensures, ← c.in_ok-jobs.ensures, ← c.in_ok-within.ensures, ← c.in_err-overrun.ensures)

pub returns-in_err-jitter : goal.returns-in_err-jitter
unfolding source_fields
returns-in_err-jitter c =
    let p = err_from_is_err_and c.from_residual-in_err-jitter.result c.from_residual-in_err-jitter.ensures.1 in
    rw (p.1, p.2, ← c.in_ok-table.ensures, ← c.in_ok-server.ensures, ← c.in_ok-first.ensures, ← c.in_ok-every.ensures, ← c.in_ok-units.ensures, ← c.in_ok-jobs.ensures, ← c.in_ok-within.ensures, ← c.in_ok-overrun.ensures, ← c.in_err-jitter.ensures)

pub returns : goal.returns
unfolding source_fields
returns c = rw (← c.in_ok-table.ensures, ← c.in_ok-server.ensures, ← c.in_ok-first.ensures, ← c.in_ok-every.ensures, ← c.in_ok-units.ensures, ← c.in_ok-jobs.ensures, ← c.in_ok-within.ensures, ← c.in_ok-overrun.ensures, ← c.in_ok-jitter.ensures)
