use Rattle.std.proofs.Common.{◌≡◌, ◌<◌, None, arith, refl, inl, inr, ap}
use Rattle.cbs_steps.specs.declared.reply.Ran.TheVariants as ran
use Rattle.cbs_rules.specs.Rules.{clock_end}
use Rattle.cbs_clients.specs.Houses.{core_of}
use Rattle.cbs_pacer.specs.Paced.{server_ran}
use Rattle.cbs_pacer.proofs.Units.{unit_there, unit_told}
use Rattle.cbs_pacer.proofs.pacer.Pacer.go_on.Goals as goal

pub begin_unit-requires : goal.begin_unit-requires
begin_unit-requires g c =
    let s = c.in-Unit.server in
    let a = c.args.house.now in
    let lt = unit_there g.W.Work.meaning a a.housed (ran.Unit s c.in-Unit.seq) s refl c.in-Unit.ensures.reply in
    omega (arith, lt, c.servers-servers.ensures.few, c.servers-servers.ensures.value)

pub begin_unit-requires-in-Done : goal.begin_unit-requires-in-Done
begin_unit-requires-in-Done g c =
    let s = c.in-Done.done.server in
    let a = c.args.house.now in
    let lt = unit_there g.W.Work.meaning a a.housed (ran.Done c.in-Done.done) s refl c.in-Done.ensures.reply in
    omega (arith, lt, c.servers-servers.ensures.few, c.servers-servers.ensures.value)

pub unreachable-requires : goal.unreachable-requires
unreachable-requires g c =
    let a = c.args.house.now in
    let clock = c.now-now.ensures.clock in
    let most = c.now-now.ensures.most in
    let early : (core_of a).clock < clock_end = omega (arith, clock, most, c.if-now-eq-LIMIT.false) in
    let none : server_ran c.run-ran.result ≡ None = elim c.in-Idle.is [ inl e ↦ ap server_ran e | inr e ↦ ap server_ran e ] in
    unit_told g.W.Work.meaning a a.housed c.run-ran.result c.requires.ready early c.run-ran.ensures.reply none
