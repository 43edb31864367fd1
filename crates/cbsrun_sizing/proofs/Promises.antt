-- What is promised for a server of a load is kept by each move of the load's simulation.
use Rattle.std.proofs.Common.{ℕ, ◌<◌, length, inl, inr, None, []}
use Rattle.cbsrun_loads.specs.Loads.{LoadFile, releases_of, IsLoad}
use Rattle.cbs_rate.specs.Plan.{IsPlan}
use Rattle.cbs_guarantee.specs.Parts.{rate_at}
use Rattle.cbs_guarantee.specs.Sources.{IsPromised}
use Rattle.cbsrun_simulate.specs.Loading.{loading, job_of}
use Rattle.cbsrun_simulate.specs.MoveLaws.{AllMoves}
use Rattle.cbsrun_simulate.specs.Moves.{Simulation, moves_of}
use Rattle.cbsrun_simulate.specs.declared.load_job.LoadJob.{LoadJob}
use Rattle.cbs_steps.specs.Setups.{history_of}
use Rattle.cbsrun_sizing.specs.Lateness.{IsKeptMove}
use Rattle.cbsrun_sizing.specs.ServerLoads.{sources_of, delay_from_release}
use Rattle.cbsrun_sizing.proofs.AloneLoads.{alone_load_kept}
use Rattle.cbsrun_sizing.proofs.KeptLoads.{load_kept}
use Rattle.cbsrun_sizing.proofs.OwnSources.{own_releases, tick_at}

-- the tick at which job q of server s is released
abbrev pub released_at : LoadFile → ℕ → ℕ → ℕ
released_at f s = tick_at s f.until (own_releases s (releases_of f))

pub promise_kept : (f : LoadFile) → IsLoad f → IsPlan f.plan → (s within : ℕ) → s < length f.plan.rates
    → IsPromised (rate_at f.plan.rates s) (sources_of s f.sources) (delay_from_release f s) f.backlog within
    → (let sim : Simulation LoadJob = record {
      history = history_of f.modes f.plan.rates f.backlog [];
      coming = releases_of f;
      owing = None;
    } in
    AllMoves loading job_of (IsKeptMove s (released_at f s) within) sim (moves_of loading job_of f.until sim))
promise_kept f load plan s within lt promised = elim promised.charged [
  | inl plain ↦ load_kept f load plan s within lt promised plain
  | inr one ↦ alone_load_kept f load plan s within lt promised one
]
