use Rattle.std.proofs.lemmas.Result.{err_from_is_err_and}
use Rattle.cbsrun_commands.proofs.run_records.print_record.Goals as goal

pub returns-in_err-write_text : goal.returns-in_err-write_text
returns-in_err-write_text g c =
    let p = err_from_is_err_and c.from_residual-in_err-write_text.result c.from_residual-in_err-write_text.ensures.1 in
    rw (p.1, p.2) (c.in-Ok.bytes.items, c.in-Ok.ensures.recorded, rw c.deref.ensures.value at c.in_err-write_text.ensures.err)

pub returns : goal.returns
returns g c = (c.in-Ok.bytes.items, c.in-Ok.ensures.recorded, rw c.deref.ensures.value at c.in_ok-write_text.ensures.ok)
