use Rattle.std.proofs.Common.{le_refl}
use Rattle.cbsrun_proposals.proofs.Backlogs.{not_enough_fewer}
use Rattle.cbsrun_proposals.proofs.remedy.greater_backlog.Goals as goal

pub returns-then-not-is_enough_with : goal.returns-then-not-is_enough_with
returns-then-not-is_enough_with c = λ n few.
    not_enough_fewer c.args.sources.now c.args.wanted c.args.server _ n few (c.is_enough_with.ensures.no c.if-not-is_enough_with.true)

pub returns-then-is_enough_with : goal.returns-then-is_enough_with
returns-then-is_enough_with c = (c.needed_backlog-needed.ensures, c.is_enough_with-2.ensures.yes c.if-is_enough_with.true)

pub returns-else-is_enough_with : goal.returns-else-is_enough_with
returns-else-is_enough_with c = (le_refl _, c.is_enough_with.ensures.yes c.if-not-is_enough_with.false)
