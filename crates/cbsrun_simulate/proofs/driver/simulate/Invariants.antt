use Rattle.std.proofs.Common.{◌≡◌, ◌+◌, ◌-◌, length, None}
use Rattle.cbs_core.specs.Agreement.{Agrees}
use Rattle.cbs_steps.specs.History.{History}
use Rattle.cbsrun_simulate.specs.Loading.{loading, job_of}
use Rattle.cbsrun_simulate.specs.Simulating.{stop_at}
use Rattle.cbsrun_simulate.proofs.Loop.{MakesSome}
use Rattle.cbsrun_simulate.specs.declared.load_job.LoadJob.{LoadJob}
use Rattle.cbsrun_simulate.proofs.driver.simulate.Given as goal

-- some of the moves were made, and no release comes before the tick that is kept
abbrev pub invariant-loop-owing : goal.invariant-loop-owing
invariant-loop-owing g l = record {
  made : (M : History LoadJob) → Agrees loading l.initial.core M
      → MakesSome loading job_of l.until g.V.View.saw (record { history = M; coming = g.R.Releases.coming l.initial.releases; owing = None }) l.core
      (g.R.Releases.coming l.releases) l.owing (l.initial.view, l.initial.lent) (l.view, l.lent);
  ready : g.V.View.ready l.view l.lent;
  stop : l.stop ≡ stop_at l.until (g.R.Releases.coming l.releases);
}

-- the ticks and the releases that are left
abbrev pub decreases-loop-owing : goal.decreases-loop-owing
decreases-loop-owing g l = (l.until - l.core.clock) + length (g.R.Releases.coming l.releases)
