use Rattle.std.proofs.Common.{◌≡◌, refl}
use Rattle.cbsrun_simulate.specs.Loading.{loading, job_of}
use Rattle.cbsrun_simulate.proofs.AloneLaws.{alone, sees_some}
use Rattle.cbsrun_simulate.proofs.alone.simulate_plan.Goals as goal

pub simulate-requires-clause-order : goal.simulate-requires-clause-order
simulate-requires-clause-order g c = let e : c.in_ok-core.core.clock ≡ 0 = c.in_ok-core.ensures.start.world.clock in
    rw e (g.R.Releases.ordered c.args.releases.now)

pub returns-in-Ok-clause-simulates : goal.returns-in-Ok-clause-simulates
returns-in-Ok-clause-simulates g c =
    alone loading job_of (λ r. refl) c.args.until c.requires.end g.V.View.saw _ c.args.backlog _ _ _ _ (g.R.Releases.ordered c.args.releases.now)
    c.in_ok-core.ensures.punctual (c.in-Ok.ensures.simulates _ c.in_ok-core.ensures.start)

pub returns-in-Err-clause-stopped : goal.returns-in-Err-clause-stopped
returns-in-Err-clause-stopped g c =
    sees_some loading job_of c.args.until c.requires.end g.V.View.saw g.V.View.failed _ c.args.backlog _ _ _ _ (g.R.Releases.ordered c.args.releases.now)
    (c.in-Err.ensures.stopped _ c.in_ok-core.ensures.start)

pub simulate-requires-clause-history : goal.simulate-requires-clause-history
simulate-requires-clause-history g c = λ none. none _ c.in_ok-core.ensures.start
