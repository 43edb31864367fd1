use Rattle.std.proofs.Common.{arith}
use Rattle.cbs_steps.specs.Setups.{terms_of}
use Rattle.cbs_core.proofs.Agreements.{start_agrees}
use Rattle.cbs_core.proofs.Cores.{core_new}
use Rattle.cbs_core.proofs.LawfulCores.{new_on_time, new_paced, new_punctual}
use Rattle.cbs_core.proofs.executor.Core.of.Goals as goal

pub invariant_of-result : goal.invariant_of-result
invariant_of-result g c = rw c.new-3.ensures
    (core_new g.W.Work.meaning c.args.backlog c.args.modes.now c.args.plan.now.rates c.len.result c.in-Ok.servers c.in-Ok-new.queues.lists c.in-Ok-new.queues.rooms
    c.requires c.in-Ok.ensures.plan.few (omega arith) c.in-Ok.ensures.plan.lawful c.in-Ok.ensures.plan.at_most_one c.in-Ok.ensures.servers
    c.len.ensures.value c.in-Ok-new.ensures.empty)

pub returns-clause-start : goal.returns-clause-start
returns-clause-start g c = rw c.new-3.ensures record {
  world = start_agrees g.W.Work.meaning (terms_of c.args.modes.now c.args.plan.now.rates) c.args.backlog c.len.result c.in-Ok.servers
      c.in-Ok-new.queues.lists c.in-Ok-new.queues.rooms c.in-Ok.ensures.servers c.len.ensures.value c.in-Ok-new.ensures.empty;
  unit = λ e. cc;
}

pub returns-clause-on_time : goal.returns-clause-on_time
returns-clause-on_time g c = new_on_time g.W.Work.meaning (invariant_of-result g c) (returns-clause-start g c)

pub returns-clause-paced : goal.returns-clause-paced
returns-clause-paced g c = new_paced g.W.Work.meaning (invariant_of-result g c) (returns-clause-start g c)

pub returns-clause-punctual : goal.returns-clause-punctual
returns-clause-punctual g c = new_punctual g.W.Work.meaning (invariant_of-result g c) (returns-clause-start g c)
