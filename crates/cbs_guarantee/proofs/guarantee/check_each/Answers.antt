use Rattle.std.proofs.Common.{arith}
use Rattle.std.proofs.lemmas.Result.{err_from_is_err_and}
use Rattle.cbs_guarantee.proofs.Sources.{reason_alone}
use Rattle.cbs_guarantee.proofs.guarantee.check_each.Goals as goal

pub returns-in_err-stream_on : goal.returns-in_err-stream_on
returns-in_err-stream_on c = let p = err_from_is_err_and c.from_residual.result c.from_residual.ensures.1 in
    rw (p.1, p.2) (reason_alone c.args.server c.args.sources.now c.loop-source.source-index _ c.in_err-stream_on.field-0.0
    (omega arith) c.in_err-stream_on.ensures)
