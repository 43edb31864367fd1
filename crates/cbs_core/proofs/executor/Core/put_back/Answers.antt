use Rattle.std.proofs.Common.{arith}
use Rattle.cbs_core.proofs.Cores.{queue_count}
use Rattle.cbs_core.proofs.Restored.{core_given_back, few_given_back}
use Rattle.cbs_core.proofs.executor.Core.put_back.Goals as goal

pub push-requires : goal.push-requires
push-requires g c =
    let may = rw (← c.self.view_is) at c.requires.may in
    record {
      within = let n = queue_count c.self.invariant in let lt = may.within in omega arith;
      room = rw (← c.self.view_is) at c.requires.room;
      few = few_given_back c.self.invariant c.args.server may;
    }

pub invariant_of-self : goal.invariant_of-self
invariant_of-self g c =
    let may = rw (← c.self.view_is) at c.requires.may in
    core_given_back c.self.invariant c.args.server c.args.job {queues = c.push.new.self.lists} may c.push.ensures.some
    c.give_back.ensures c.push.ensures.lists
