use Rattle.std.proofs.Common.{arith}
use Rattle.cbs_core.proofs.Cores.{queue_count}
use Rattle.cbs_core.proofs.executor.Core.give_back.Goals as goal

pub reserve-requires : goal.reserve-requires
reserve-requires g c =
    let n = queue_count c.self.invariant in
    let may = rw (← c.self.view_is) at (c.may_give_back.ensures.sound c.if-not-may_give_back.false) in
    let within = may.within in
    omega arith
