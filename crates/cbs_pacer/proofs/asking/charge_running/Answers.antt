use Rattle.std.proofs.lemmas.Bool.{false≢true}
use Rattle.cbs_clients.specs.Houses.{core_of}
use Rattle.cbs_clients.proofs.Metered.{charge_granted}
use Rattle.cbs_pacer.proofs.Same.{made_same}
use Rattle.cbs_pacer.proofs.asking.charge_running.Goals as goal

pub returns-in-Err-clause-made : goal.returns-in-Err-clause-made
returns-in-Err-clause-made g c = made_same g.W.Work.meaning c.args.house.now c.charge_server.new.self c.in-Err.ensures.same

pub returns-in-Err-clause-in_full : goal.returns-in-Err-clause-in_full
returns-in-Err-clause-in_full g c = λ runs early.
    let a = c.args.house.now in
    absurd (false≢true (rw c.in-Err.is at (charge_granted g.W.Work.meaning (core_of a) c.charge_server.result c.args.server c.args.ticks a.housed.history runs
    early c.charge_server.ensures.refusal)))
