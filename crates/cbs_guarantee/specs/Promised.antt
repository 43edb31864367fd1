-- What is promised for the sources of a server is kept by every list of steps: the number that is calculated is the one of
-- the laws.
use Rattle.std.specs.Prelude.{◌⊎◌, ℕ, ◌+◌, ◌≤◌, List}
use Rattle.cbs_job.specs.Work.{Meaning}
use Rattle.cbs_rate.specs.Rate.{Rate}
use Rattle.cbs_steps.specs.Charged.{others_charges, IsEndOf}
use Rattle.cbs_steps.specs.History.{History, world_after}
use Rattle.cbs_steps.specs.Laws.{account_in}
use Rattle.cbs_steps.specs.Promises.{when}
use Rattle.cbs_steps.specs.Quiet.{AdvanceQuietly}
use Rattle.cbs_steps.specs.declared.step.Step.{Step}
use Rattle.cbs_guarantee.specs.Overruns.{AreOverruns}
use Rattle.cbs_guarantee.specs.Sources.{streams_of, IsOneAtATime, IsPromised}
use Rattle.cbs_guarantee.specs.Streams.{AreStreams, IsUncharged}
use Rattle.cbs_guarantee.specs.declared.source.Source.{Source}

module _ {W : Type 0} (work : Meaning W) (N : History W) (s : ℕ) where
  -- the reservation of server s
  abbrev pub reservation_of : Rate
  reservation_of = (account_in work N s).terms.reservation

  -- all jobs of server s are those of these sources, job q one of source `of q`, and the server is charged nothing
  pub record AreJobsOf (sources : List Source) (of : ℕ → ℕ) : Type 0 where
    pub streams : AreStreams work N.setup s (streams_of reservation_of sources) of N.steps
    pub uncharged : IsUncharged work N s

  -- All jobs of server s are those of one source, and are finished one at a time. Each of their units is charged at most the
  -- source's overrun, before the next job comes
  pub record AreJobsOfOne (sources : List Source) (within : ℕ) : Type 0 where
    pub one : IsOneAtATime sources within
    pub jobs : AreOverruns work N.setup s one.source.every one.source.units one.source.overrun N.steps

module _ {W : Type 0} where
  -- Let so many ticks be promised for the sources of a server, with the delay by the others and the backlog. Let its jobs be
  -- those of the sources, and the others be charged no more than the delay. Then each job ends within as many ticks after
  -- it came, its charges included, whatever the others are asked for.
  abbrev pub KeepsPromised : Meaning W → History W → Type 0
  KeepsPromised work N = AdvanceQuietly work N.setup N.steps → (s : ℕ) (sources : List Source) (of : ℕ → ℕ) (delay within : ℕ)
      → IsPromised (reservation_of work N s) sources delay N.setup.backlog within → others_charges (world_after work N).accounts s ≤ delay
      → AreJobsOf work N s sources of ⊎ AreJobsOfOne work N s sources within
      → (C K M : List (Step W)) (job : W) → IsEndOf work N C K M s job → (world_after work N).now ≤ (world_after work (when N M)).now + within
