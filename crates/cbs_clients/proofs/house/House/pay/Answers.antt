use Rattle.std.proofs.Common.{◌≡◌, ◌-◌, min, arith, refl}
use Rattle.cbs_rules.specs.Rules.{clock_end}
use Rattle.cbs_clients.specs.Houses.{core_of}
use Rattle.cbs_clients.proofs.MadeSteps.{made_nothing}
use Rattle.cbs_clients.proofs.Metered.{charge_granted}
use Rattle.cbs_clients.proofs.house.House.pay.Goals as goal

pub returns-else-ticks-gt0-clause-made : goal.returns-else-ticks-gt0-clause-made
returns-else-ticks-gt0-clause-made g c =
    let a = c.args.self.now in
    let told = c.min-ticks.ensures in
    let clock = c.now.ensures.clock in
    let none : min c.args.beyond (clock_end - (core_of a).clock) ≡ 0 = omega (arith, told, clock, c.if-ticks-gt0.false) in
    rw none (made_nothing g.W.Work.meaning a)

pub returns-then-ticks-gt0-clause-results : goal.returns-then-ticks-gt0-clause-results
returns-then-ticks-gt0-clause-results g c = c.charge_server.ensures.results

pub returns-then-ticks-gt0-clause-jobs : goal.returns-then-ticks-gt0-clause-jobs
returns-then-ticks-gt0-clause-jobs g c = c.charge_server.ensures.jobs

pub returns-else-ticks-gt0-clause-results : goal.returns-else-ticks-gt0-clause-results
returns-else-ticks-gt0-clause-results g c = λ s. refl

pub unwrap-requires : goal.unwrap-requires
unwrap-requires g c =
    let a = c.args.self.now in
    let told = c.min-ticks.ensures in
    let clock = c.now.ensures.clock in
    let most = c.now.ensures.most in
    charge_granted g.W.Work.meaning (core_of a) c.charge_server.result c.args.server c.min-ticks.result a.housed.history c.requires
    (omega (arith, told, clock, most)) c.charge_server.ensures.refusal
