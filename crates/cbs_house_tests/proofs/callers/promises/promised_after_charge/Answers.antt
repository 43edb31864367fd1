use Rattle.cbs_house_tests.proofs.callers.promises.promised_after_charge.Goals as goal

pub returns : goal.returns
returns g c = c.promised-tick.ensures.kept_charged (c.in_ok-charge.ensures.paced c.loop.invariant)
