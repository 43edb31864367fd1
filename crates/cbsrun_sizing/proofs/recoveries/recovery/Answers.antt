use Rattle.cbsrun_sizing.proofs.Recovered.{made_up}
use Rattle.cbsrun_sizing.proofs.recoveries.recovery.Goals as goal

pub returns-clause-made_up : goal.returns-clause-made_up
returns-clause-made_up c =
    let f = c.args.load.now in
    rw (c.free_within.ensures.value, c.greatest_overrun.ensures, c.sources.ensures.value, c.plan.ensures)
    (made_up f (rw c.plan.ensures at c.free_within.ensures.lawful) c.sources.ensures.lawful.moded)
