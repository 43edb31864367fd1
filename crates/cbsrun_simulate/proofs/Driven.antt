-- The next move, as the driver makes it.
use Rattle.std.proofs.Common.{◌≡◌, ℕ, ◌-◌, ◌≤◌, ◌<◌, List, [], ◌∷◌, arith, refl, Option, Some, None}
use Rattle.std.specs.Prelude.{min, slice_get}
use Rattle.cbs_core.specs.Agreement.{Agrees}
use Rattle.cbs_core.specs.Held.{CoreHeld}
use Rattle.cbs_steps.specs.History.{History, world_after}
use Rattle.cbsrun_events.specs.declared.seen.Seen.{Seen}
use Rattle.cbsrun_simulate.specs.Driving.{Made, StopsBy, move_at}
use Rattle.cbsrun_simulate.specs.Loading.{loading, job_of}
use Rattle.cbsrun_simulate.specs.Moves.{Move, submit, charge, move_on, Simulation, next_of, coming_after, owing_after}
use Rattle.cbsrun_simulate.specs.Simulating.{Stops, stop_at}
use Rattle.cbsrun_simulate.specs.declared.charge.Charge.{Charge}
use Rattle.cbsrun_simulate.specs.declared.load_job.LoadJob.{LoadJob}
use Rattle.cbsrun_simulate.specs.declared.release.Release.{Release}
use Rattle.cbsrun_simulate.proofs.Goes.{MakesNext, before_stop, charge_next, one_due, none_due}

-- a move before the next release does not change the releases to come
pub same_coming : (now stop : ℕ) (o : Option ℕ) (coming : List Release) → coming ≡ coming_after (move_on now stop o) coming
same_coming now stop None coming = refl
same_coming now stop (Some span) coming = refl

-- the tick up to which no release comes is not after the end
pub not_after : (until : ℕ) (coming : List Release) → stop_at until coming ≤ until
not_after until [] = omega arith
not_after until (r ∷ rs) = omega arith

module _ (until : ℕ) (mid : CoreHeld LoadJob) (coming : List Release) (o : Option Charge) where
  -- the simulation that the driver holds, after a history
  abbrev sim_of : History LoadJob → Simulation LoadJob
  sim_of M = record { history = M; coming = coming; owing = o }

  -- this is the next move, whatever the history is
  abbrev pub IsNext : Move → Type 0
  IsNext m = (M : History LoadJob) → Agrees loading mid M → next_of loading job_of until (sim_of M) ≡ Some m

  -- before the next release, units run or ticks pass
  pub goes_next : (stop : ℕ) → o ≡ None → stop ≡ stop_at until coming → mid.clock < stop → IsNext (move_at stop mid)
  goes_next stop none is early M agrees =
      let at = agrees.world.clock in
      let shown = agrees.world.shown in
      let lt : (world_after loading M).now < stop_at until coming = omega arith in
      rw (none, is, at, shown) (before_stop loading job_of until M coming lt)

  -- what is owed is charged first
  pub charges_next : (c : Charge) → o ≡ Some c → mid.clock < until → IsNext (charge c.server (min c.ticks (until - mid.clock)))
  charges_next c some early M agrees =
      let at = agrees.world.clock in
      let lt : (world_after loading M).now < until = omega arith in
      rw (some, at) (charge_next loading job_of until M coming c lt)

  -- a release that has come is submitted
  pub submits_next : (r : Release) → slice_get coming 0 ≡ Some r → stop_at until coming ≤ mid.clock → r.tick < until → (mid.clock < until → o ≡ None)
      → IsNext (submit r)
  submits_next r first late sooner free M agrees =
      let at = agrees.world.clock in
      one_due loading job_of until M coming o r first (omega arith) sooner (λ lt. free (omega arith))

  -- if none has come, there is no next move
  pub ends : stop_at until coming ≤ mid.clock → ((r : Release) → slice_get coming 0 ≡ Some r → until ≤ r.tick)
      → (M : History LoadJob) → Agrees loading mid M → next_of loading job_of until (sim_of M) ≡ None
  ends late later M agrees = let at = agrees.world.clock in none_due loading job_of until M coming o (omega arith) later

  module _ {S : Type 0} (saw failed : S → S → List Seen → Type 0) (m : Move) (next : IsNext m) (new : CoreHeld LoadJob) (u v : S) where
    -- a core that made this move made the next one
    pub makes_one : (then : List Release) (p : Option Charge) → then ≡ coming_after m coming
        → ((M : History LoadJob) → Agrees loading mid M → p ≡ owing_after loading job_of (sim_of M) m) → Made saw m mid new u v
        → (M : History LoadJob) → Agrees loading mid M → MakesNext loading job_of until saw (sim_of M) new then p u v
    makes_one then p rest owed makes M agrees =
        record { move = m; next = next M agrees; makes = makes (sim_of M) agrees; rest = rest; owed = owed M agrees }

    -- a core that stopped by this move stopped by the next one
    pub stops_one : StopsBy saw failed m mid new u v → (M : History LoadJob) → Agrees loading mid M
        → Stops loading job_of until saw failed (sim_of M) new u v
    stops_one stops M agrees = stops (sim_of M) agrees until (next M agrees)
