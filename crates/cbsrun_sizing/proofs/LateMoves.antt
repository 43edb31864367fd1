-- No server of a simulation is later than the greatest delay.
use Rattle.std.proofs.Common.{◌≡◌, ℕ, List, [], ◌∷◌, arith, refl, subst, None}
use Rattle.cbsrun_loads.specs.Loads.{LoadFile, releases_of, IsLoad}
use Rattle.cbs_rate.specs.Plan.{IsPlan}
use Rattle.cbsrun_simulate.specs.Loading.{loading, job_of}
use Rattle.cbsrun_simulate.specs.MoveLaws.{AllMoves, since_after}
use Rattle.cbsrun_simulate.specs.Moves.{Move, Simulation, after_move, AreNext, moves_of}
use Rattle.cbsrun_simulate.specs.declared.load_job.LoadJob.{LoadJob}
use Rattle.cbsrun_simulate.proofs.Apart.{all_in_order}
use Rattle.cbsrun_simulate.proofs.Bounded.{IsBounded, bounded_move, bounded_new}
use Rattle.cbsrun_simulate.proofs.MoveSteps.{IsGoing}
use Rattle.cbsrun_simulate.proofs.Simulations.{moves_are, well_next}
use Rattle.cbs_steps.specs.History.{Setup, after, world_after}
use Rattle.cbs_steps.specs.Quiet.{AdvanceQuietly}
use Rattle.cbs_steps.specs.Setups.{setup_of, terms_of}
use Rattle.cbsrun_sizing.specs.Lateness.{greatest_delay, IsChargedWithin, AreLateByLess}
use Rattle.cbsrun_sizing.specs.ServerLoads.{most_charged}
use Rattle.cbsrun_sizing.proofs.KeptLoads.{overruns_within}
use Rattle.cbsrun_sizing.proofs.LateServers.{bounded}

module _ (f : LoadFile) (load : IsLoad f) (plan : IsPlan f.plan) where
  abbrev setup : Setup
  setup = setup_of f.modes f.plan.rates f.backlog

  -- before each move, ready servers are late by less than the bound
  abbrev pub IsEarly : Simulation LoadJob → Move → Type 0
  IsEarly sim m = AreLateByLess (greatest_delay f) (world_after loading sim.history)

  late_moves : (since : ℕ) (sim : Simulation LoadJob) (ms : List Move) → setup ≡ sim.history.setup → IsGoing loading job_of f.until load.few_ticks since sim
      → IsBounded (most_charged f.sources) f.until sim → AdvanceQuietly loading sim.history.setup sim.history.steps
      → AreNext loading job_of f.until sim ms → AllMoves loading job_of IsEarly sim ms
  late_moves since sim [] same going h quiet each = tt
  late_moves since sim (m ∷ ms) same going h quiet each =
      let well = well_next loading job_of f.until load.few_ticks since sim m going each.0 in
      let law = subst (λ (g : Setup). AdvanceQuietly loading g sim.history.steps → IsChargedWithin f (after loading g sim.history.steps)
      → AreLateByLess (greatest_delay f) (after loading g sim.history.steps)) same (bounded f plan load.moded sim.history.steps) in (
        law quiet (λ s lt. (h.within s).1),
        late_moves (since_after loading job_of since sim m) (after_move loading job_of sim m) ms same well.going
            (bounded_move (most_charged f.sources) f.until load.few_ticks since sim m well h) (quiet, well.quiet) each.1,
      )

  abbrev sim : Simulation LoadJob
  sim = record { history = record { setup = setup; steps = [] }; coming = releases_of f; owing = None }

  pub lateness_kept : AllMoves loading job_of IsEarly sim (moves_of loading job_of f.until sim)
  lateness_kept =
      let going : IsGoing loading job_of f.until load.few_ticks 0 sim =
      record { early = omega arith; waited = omega arith; order = all_in_order f.until f.seed 0 f.listed f.sources; owed = λ lt c e. cc } in
      late_moves 0 sim (moves_of loading job_of f.until sim) refl going
      (bounded_new (most_charged f.sources) f.until (terms_of f.modes f.plan.rates) f.backlog sim.coming (overruns_within f load)) tt
      (moves_are loading job_of f.until load.few_ticks 0 sim going).each
