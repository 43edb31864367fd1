-- A load as a run: the steps of its simulation, as a view sees them.
use Rattle.std.specs.Prelude.{ℕ, zero, suc, ◌+◌, ◌-◌, Bool, false, not, ◌&&◌, eqb, ltb, if◌then◌else◌, List, [], ◌∷◌, ◌≡◌, ◌<◌, min, max, length, Option, Some}
use Rattle.std.specs.Prelude.{None, ◌≤◌, All}
use Rattle.cbsrun_figures.specs.Figures.{one_if, steps_of, throttled, total, refusals, finished, response}
use Rattle.cbsrun_simulate.specs.Loading.{loading, job_of}
use Rattle.cbsrun_simulate.specs.Moves.{Move, charge, Simulation, clock_of, after_move, moves_of}
use Rattle.cbsrun_simulate.specs.declared.load_job.LoadJob.{LoadJob}
use Rattle.cbs_steps.specs.Accounts.{face_of}
use Rattle.cbs_steps.specs.Faces.{Face, is_active}
use Rattle.cbs_steps.specs.History.{World, account, ticks, world_after}
use Rattle.cbsrun_loads.specs.Loads.{LoadFile, releases_of}
use Rattle.cbsrun_simulate.specs.Bounds.{Bounds}
use Rattle.cbsrun_simulate.specs.Shown.{shown}
use Rattle.cbsrun_simulate.specs.declared.terms.SourceTerms.{SourceTerms}
use Rattle.cbs_steps.specs.Setups.{history_of}
use Rattle.cbsrun_events.specs.declared.seen.Seen.{Seen}
use Rattle.cbsrun_runs.specs.Runs.{Shown}
use Rattle.cbs_guarantee.specs.Parts.{rate_at}
use Rattle.cbs_guarantee.specs.Sources.{IsPromised}
use Rattle.cbsrun_simulate.specs.MoveLaws.{AllMoves}
use Rattle.cbsrun_sizing.specs.Lateness.{greatest_delay, AreLateByLess}
use Rattle.cbsrun_sizing.specs.ServerLoads.{sources_of, delay_from_release}

-- a server with this face waits: it has an unfinished job, and is throttled
abbrev pub is_waiting : Face → Bool
is_waiting f = is_active f && f.state.throttled

-- the face of server s
abbrev pub shows : World LoadJob → ℕ → Face
shows w s = face_of loading (account w.accounts s)

-- the move charges server s
abbrev pub is_charge_of : ℕ → Move → Bool
is_charge_of s (charge t n) = eqb t s
is_charge_of s _ = false

-- server s waits at tick t, while the move takes its ticks. What decides is the face of the server when the clock has
-- come to t. A server that is charged does not wait, since its unit goes on
abbrev pub waits_in : Simulation LoadJob → Move → ℕ → ℕ → Bool
waits_in sim m s t = let w = world_after loading sim.history in not (is_charge_of s m) && is_waiting (shows (ticks (t - w.now) w) s)

-- server s waits at tick t of a simulation that makes these moves. What decides is the move that takes the clock past t
abbrev pub waits_at : Simulation LoadJob → List Move → ℕ → ℕ → Bool
waits_at sim [] s t = false
waits_at sim (m ∷ ms) s t =
    if ltb t (clock_of loading job_of (after_move loading job_of sim m)) then waits_in sim m s t else waits_at (after_move loading job_of sim m) ms s t

-- how many of the n ticks from t on pass the test
abbrev pub count_ticks : (ℕ → Bool) → ℕ → ℕ → ℕ
count_ticks at t zero = 0
count_ticks at t (suc n) = one_if (at t) + count_ticks at (t + 1) n

-- how many ticks before the end of a simulation server s waits
abbrev pub ticks_waiting : ℕ → Simulation LoadJob → ℕ → ℕ
ticks_waiting until sim s = count_ticks (waits_at sim (moves_of loading job_of until sim) s) 0 until

-- the start of a load: no step is made yet, and all releases of its sources are still to come
abbrev pub start_of : LoadFile → Simulation LoadJob
start_of f = record {
  history = history_of f.modes f.plan.rates f.backlog [];
  coming = releases_of f;
  owing = None;
}

-- the ticks of a load in which server s is throttled and has a job
abbrev pub throttled_ticks : LoadFile → ℕ → ℕ
throttled_ticks f s = ticks_waiting f.until (start_of f) s

-- the steps of a load, as a view sees them, the newest first
abbrev pub seen_in : LoadFile → List Seen
seen_in f = shown loading job_of (start_of f) (moves_of loading job_of f.until (start_of f)) []

-- a range that also contains one number more, if there is one
abbrev pub widened : Option ℕ → Option Bounds → Option Bounds
widened None b = b
widened (Some n) None = Some (record { least = n; greatest = n })
widened (Some n) (Some b) = Some (record { least = min n b.least; greatest = max n b.greatest })

-- within how many ticks the jobs of the sources of server s are to be finished: from the least of these numbers to the
-- greatest
abbrev pub within_of : ℕ → List SourceTerms → Option Bounds
within_of s [] = None
within_of s (t ∷ ts) = if eqb t.server s then widened t.within (within_of s ts) else within_of s ts

-- for each server, the throttled ticks that are computed from its own steps are the ticks in which it is throttled and
-- has a job
abbrev pub AreThrottled : LoadFile → Type 0
AreThrottled f = (s : ℕ) → s < length f.plan.rates → throttled f.until (steps_of s (seen_in f)) ≡ throttled_ticks f s

-- a load as a run: its jobs are simulated up to its end
abbrev pub run_of : LoadFile → Shown
run_of f = record {
  names = f.names;
  modes = f.modes;
  plan = f.plan;
  backlog = f.backlog;
  tick = f.tick;
  seed = Some f.seed;
  within = λ s. within_of s f.sources;
  seen = seen_in f;
  end = f.until;
}

-- no job of server s was refused, and each that was finished took at most `within` ticks from its release on
pub record KeepsWithin (f : LoadFile) (s within : ℕ) : Type 0 where
  pub accepted : total (λ o. refusals o.event) (steps_of s (seen_in f)) ≡ 0
  pub ended : All (λ job. response job ≤ within) (finished (steps_of s (seen_in f)))

-- what `IsServerLoad` promises for the sources of a server is kept
abbrev pub KeepsPromises : LoadFile → Type 0
KeepsPromises f = (s within : ℕ) → s < length f.plan.rates
    → IsPromised (rate_at f.plan.rates s) (sources_of s f.sources) (delay_from_release f s) f.backlog within → KeepsWithin f s within

-- what `BoundsLateness` bounds is kept: before each move of the simulation, the deadline of each ready server has passed by
-- less than `greatest_delay`
abbrev pub KeepsLateness : LoadFile → Type 0
KeepsLateness f = AllMoves loading job_of (λ sim m. AreLateByLess (greatest_delay f) (world_after loading sim.history)) (start_of f)
    (moves_of loading job_of f.until (start_of f))

-- what holds of each load. The throttled ticks that are computed from a server's own steps are those in which the server
-- is throttled and has a job. What is promised is kept, and no server is later than is told
pub record IsKept (f : LoadFile) : Type 0 where
  pub throttled : AreThrottled f
  pub promises : KeepsPromises f
  pub late : KeepsLateness f
