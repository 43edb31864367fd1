use Rattle.std.proofs.Common.{refl}
use Rattle.cbsrun_lines.proofs.Writers.{tries, untouched}
use Rattle.cbsrun_commands.proofs.ending.status_or_lack.Goals as goal

pub returns-in-Err : goal.returns-in-Err
returns-in-Err g c = rw c.in-Err.is c.status_of.ensures

pub returns-in_default : goal.returns-in_default
returns-in_default g c = rw (c.in-Ok.is, c.in_default.is) (refl, untouched _)

pub returns : goal.returns
returns g c = rw (c.in-Ok.is, c.in-Some.is)
    (refl, (_, tries c.write_pieces-written.result _ _ _ c.write_pieces-written.ensures.ok c.write_pieces-written.ensures.err))
