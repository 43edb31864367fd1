use Rattle.cbs_core.proofs.Restored.{core_restored}
use Rattle.cbs_core.proofs.executor.Core.restore.Goals as goal

pub invariant_of-self : goal.invariant_of-self
invariant_of-self g c =
    let may = c.may_have_been.ensures in
    let yes = c.if-not-may_have_been.false in
    let still = rw (← c.self.view_is) at (c.is_still.ensures.sound c.if-not-is_still.false) in
    core_restored c.self.invariant c.args.server c.args.past.now still (may.within yes) (may.lawful yes) (may.sound yes) c.restore.ensures
