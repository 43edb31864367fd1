-- What the driver of a simulation does, and where the simulation of a load begins.
use Rattle.std.specs.Prelude.{◌≡◌, List, [], ℕ, Option, None}
use Rattle.cbs_core.specs.Agreement.{Agrees}
use Rattle.cbs_core.specs.Held.{CoreHeld}
use Rattle.cbs_rate.specs.Plan.{Planned}
use Rattle.cbs_rules.specs.declared.mode.Mode.{Mode}
use Rattle.cbs_steps.specs.History.{History}
use Rattle.cbs_steps.specs.Setups.{history_of}
use Rattle.cbsrun_events.specs.declared.seen.Seen.{Seen}
use Rattle.cbsrun_simulate.specs.Loading.{loading, job_of}
use Rattle.cbsrun_simulate.specs.Moves.{Move, Simulation, idle_span, move_on, owing_after}
use Rattle.cbsrun_simulate.specs.Simulating.{MakesMove, SimulatesAlone, StopsAt}
use Rattle.cbsrun_simulate.specs.declared.charge.Charge.{Charge}
use Rattle.cbsrun_simulate.specs.declared.load_job.LoadJob.{LoadJob}
use Rattle.cbsrun_simulate.specs.declared.release.Release.{Release}

-- a simulation that begins after these steps, with these releases to come. No charge is owed
abbrev pub begins : History LoadJob → List Release → Simulation LoadJob
begins M coming = record { history = M; coming = coming; owing = None }

-- the same before the first step of servers of this plan, with these modes and this backlog
abbrev pub alone : Planned → List Mode → ℕ → List Release → Simulation LoadJob
alone plan modes backlog coming = begins (history_of modes plan.rates backlog []) coming

-- it holds of the simulation that is begun after every history which the core agrees with
abbrev pub Begun : CoreHeld LoadJob → List Release → (Simulation LoadJob → Type 0) → Type 0
Begun core coming says = (M : History LoadJob) → Agrees loading core M → says (begins M coming)

-- a core that was made for a load simulated it
abbrev pub SimulatesLoad : {S : Type 0} → ℕ → (S → S → List Seen → Type 0) → Simulation LoadJob → CoreHeld LoadJob → S → S → Type 0
SimulatesLoad until saw sim new w v = SimulatesAlone loading job_of until saw sim new w v

-- the move of a core up to the tick `stop`, if no release has come
abbrev pub move_at : ℕ → CoreHeld LoadJob → Move
move_at stop core = move_on core.clock stop (idle_span core.clock core.faces)

-- the core made this move of each simulation that it agreed with, and the view saw it
abbrev pub Made : {S : Type 0} → (S → S → List Seen → Type 0) → Move → CoreHeld LoadJob → CoreHeld LoadJob → S → S → Type 0
Made saw m old new w v = (sim : Simulation LoadJob) → Agrees loading old sim.history → MakesMove loading job_of saw sim m new w v

-- after this move of each simulation that the core agrees with, this charge is owed
abbrev pub Owes : Move → CoreHeld LoadJob → Option Charge → Type 0
Owes m core owing = (sim : Simulation LoadJob) → Agrees loading core sim.history → owing ≡ owing_after loading job_of sim m

-- of each simulation that the core agreed with and whose next move this is: the core stopped at the latest after it
abbrev pub StopsBy : {S : Type 0} → (S → S → List Seen → Type 0) → (S → S → List Seen → Type 0) → Move → CoreHeld LoadJob → CoreHeld LoadJob
    → S → S → Type 0
StopsBy saw failed m old new w v = (sim : Simulation LoadJob) → Agrees loading old sim.history → StopsAt loading job_of saw failed sim m new w v
