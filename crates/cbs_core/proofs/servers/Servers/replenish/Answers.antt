use Rattle.std.proofs.Common.{sym, arith}
use Rattle.cbs_steps.proofs.Waiting.{none_replenished}
use Rattle.cbs_core.proofs.servers.Servers.replenish.Goals as goal

pub returns-else-now-self : goal.returns-else-now-self
returns-else-now-self g c = rw (← c.self.view_is) (sym (none_replenished c.self.inside.waits.due c.args.now c.self.inside.servers.items
    c.self.invariant.2.due (omega arith)))
