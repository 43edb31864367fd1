use Rattle.std.proofs.lemmas.Result.{err_from_is_err_and}
use Rattle.cbsrun_command_line.proofs.words.with_changes.Goals as goal

pub returns-in_err-verb-clause-app : goal.returns-in_err-verb-clause-app
returns-in_err-verb-clause-app c =
    let p = err_from_is_err_and c.from_residual.result c.from_residual.ensures.1 in
    rw p.1 tt

pub returns-in_err-verb-clause-local : goal.returns-in_err-verb-clause-local
returns-in_err-verb-clause-local c =
    let p = err_from_is_err_and c.from_residual.result c.from_residual.ensures.1 in
    rw p.1 tt

pub returns-in_err-verb-2-clause-app : goal.returns-in_err-verb-2-clause-app
returns-in_err-verb-2-clause-app c =
    let p = err_from_is_err_and c.from_residual-in_err-verb-2.result c.from_residual-in_err-verb-2.ensures.1 in
    rw p.1 tt

pub returns-in_err-verb-2-clause-local : goal.returns-in_err-verb-2-clause-local
returns-in_err-verb-2-clause-local c =
    let p = err_from_is_err_and c.from_residual-in_err-verb-2.result c.from_residual-in_err-verb-2.ensures.1 in
    rw p.1 tt
