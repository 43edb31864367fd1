use Rattle.std.proofs.Common.{◌∙◌, ap, arith}
use Rattle.cbs_rules.specs.Rules.{Reserved}
use Rattle.cbs_rules.proofs.Charges.{charge_early, charge_ticked, waits_after_charge}
use Rattle.cbs_rules.proofs.Paid.{charge_paid}
use Rattle.cbs_rules.proofs.server_state.ServerState.charge.Goals as goal

pub returns-clause-ticks : goal.returns-clause-ticks
returns-clause-ticks c =
    let e = c.pay.ensures in
    ap (λ (s : Reserved). s.state) e.rule
    ∙ charge_ticked c.args.mode c.args.self.now.reservation c.args.ticks c.args.self.now.state c.requires.ticks.0 e.rate e.lawful c.requires.free c.requires.begun

pub returns-clause-paid : goal.returns-clause-paid
returns-clause-paid c =
    let e = c.pay.ensures in
    rw (ap (λ (s : Reserved). s.state) e.rule)
    (charge_paid c.args.mode c.args.self.now.reservation c.args.ticks c.args.self.now.state e.rate.some e.lawful c.requires.free)

pub returns-clause-early : goal.returns-clause-early
returns-clause-early c =
    let e = c.pay.ensures in
    let d = ap (λ (s : Reserved). s.state.deadline) e.rule in
    let l = charge_early c.args.mode c.args.self.now.reservation c.args.ticks c.args.self.now.state c.requires.ticks.0 e.rate e.lawful c.requires.free c.requires.begun in
    omega arith

pub returns-clause-waits : goal.returns-clause-waits
returns-clause-waits c = λ t.
    let e = c.pay.ensures in
    rw (ap (λ (s : Reserved). s.state) e.rule)
    (waits_after_charge c.args.mode c.args.self.now.reservation c.args.ticks c.args.self.now.state e.lawful c.requires.free t)
