use Rattle.std.proofs.Common.{rules}
use Rattle.cbsrun_io.proofs.pending.Pending.flush.Goals as goal

pub returns-in_err-write_text-clause-err : goal.returns-in_err-write_text-clause-err
returns-in_err-write_text-clause-err g c = search rules

pub returns-clause-ok : goal.returns-clause-ok
returns-clause-ok g c = search rules
