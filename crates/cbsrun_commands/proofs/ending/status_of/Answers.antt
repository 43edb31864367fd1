use Rattle.std.proofs.Common.{refl}
use Rattle.cbsrun_lines.proofs.Writers.{tries, untouched}
use Rattle.cbsrun_commands.proofs.ending.status_of.Goals as goal

pub returns-in_default : goal.returns-in_default
returns-in_default g c = rw c.in_default.is (refl, untouched _)

pub returns-in-Unread : goal.returns-in-Unread
returns-in-Unread g c = rw (c.in-Err.is, c.in-Unread.is) (refl, c.write_explained-explained.ensures.explained)

pub returns-in-Ended : goal.returns-in-Ended
returns-in-Ended g c = rw (c.in-Err.is, c.in-Ended.is)
    (refl, tries c.write_nothing_shown-written.result _ _ _ c.write_nothing_shown-written.ensures.ok c.write_nothing_shown-written.ensures.err)

pub returns-in-Run : goal.returns-in-Run
returns-in-Run g c = rw (c.in-Err.is, c.in-Run.is) c.status_of_run.ensures
