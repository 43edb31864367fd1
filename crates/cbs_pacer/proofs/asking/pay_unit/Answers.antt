use Rattle.std.proofs.Common.{arith, ap, ◌∙◌}
use Rattle.cbs_pace.specs.Paces.{pacing_with_charge}
use Rattle.cbs_pacer.proofs.asking.pay_unit.Goals as goal

pub returns : goal.returns
returns g c =
    let clock = c.now.ensures.clock in
    let late = c.now.ensures.most in
    let due = c.min-due.ensures in
    let value = c.charge.ensures.value in
    record {
      ticks = c.charge_running-charged.result;
      made = c.charge_running-charged.ensures.made;
      most = let m = c.charge_running-charged.ensures.most in omega (arith, m, due, value, clock);
      in_full = λ runs. let e = c.charge_running-charged.ensures.in_full runs (omega (arith, due, clock, late)) in omega (arith, e, due, value, clock);
      pace = c.note_charge.ensures ∙ ap (pacing_with_charge c.charge_running-charged.result) c.charge.ensures.kept;
    }
