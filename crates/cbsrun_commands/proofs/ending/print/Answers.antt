use Rattle.std.proofs.lemmas.Result.{err_from_is_err_and}
use Rattle.cbsrun_commands.proofs.ending.print.Goals as goal

pub returns-in_err-write_text : goal.returns-in_err-write_text
returns-in_err-write_text g c =
    let p = err_from_is_err_and c.from_residual.result c.from_residual.ensures.1 in
    rw (p.1, p.2) (c.as_bytes.result.now, c.as_bytes.ensures.value, c.in_err-write_text.ensures.err)

pub returns : goal.returns
returns g c = (c.as_bytes.result.now, c.as_bytes.ensures.value, c.in_ok-write_text.ensures.ok)
