use Rattle.std.proofs.lemmas.Result.{err_from_is_err_and}
use Rattle.cbs_guarantee.proofs.guarantee.guaranteed.Goals as goal

pub returns-in_err-within : goal.returns-in_err-within
returns-in_err-within c = let p = err_from_is_err_and c.from_residual.result c.from_residual.ensures.1 in
    rw (p.1, p.2) (c.in_err-within.ensures.answer c.args.delay c.args.backlog)
