use Rattle.std.proofs.Common.{arith}
use Rattle.cbs_core.proofs.Agreements.{promised_held}
use Rattle.cbs_core.proofs.Cores.{server_at, queue_count}
use Rattle.cbs_core.proofs.LawfulCores.{promised_kept, promised_late}
use Rattle.cbs_core.proofs.executor.Core.promised.Goals as goal

pub owed-requires : goal.owed-requires
owed-requires g c = omega (arith, queue_count c.self.invariant)

pub promised-requires : goal.promised-requires
promised-requires g c =
    let early = (server_at c.self.invariant c.args.server (omega arith)).early in
    let clock = c.self.invariant.clock in
    record { within = omega arith; early = omega arith }

pub returns-clause-value : goal.returns-clause-value
returns-clause-value g c = λ M agrees.
    promised_held c.self.view_is agrees c.args.server c.owed.result c.promised.result (omega arith) c.owed.ensures c.promised.ensures

pub returns-clause-kept : goal.returns-clause-kept
returns-clause-kept g c = promised_kept g.W.Work.meaning c.self.view_is c.self.invariant c.args.server c.promised.result (returns-clause-value g c)

pub returns-clause-kept_charged : goal.returns-clause-kept_charged
returns-clause-kept_charged g c = promised_late g.W.Work.meaning c.self.view_is c.self.invariant c.args.server c.promised.result (returns-clause-value g c)
