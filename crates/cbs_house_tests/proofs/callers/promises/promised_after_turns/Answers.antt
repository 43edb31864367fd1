use Rattle.cbs_house_tests.proofs.callers.promises.promised_after_turns.Goals as goal

pub returns : goal.returns
returns g c = c.promised-tick.ensures.kept c.loop.invariant
