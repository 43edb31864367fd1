-- How a core simulates a load.
use Rattle.std.specs.Prelude.{◌≡◌, ◌⊎◌, ℕ, min, List, [], ◌∷◌, ◌++◌, Option, Some, None}
use Rattle.std.specs.List.{AllByRecursion}
use Rattle.std.specs.Option.{option_and_then}
use Rattle.cbs_job.specs.Work.{Meaning}
use Rattle.cbs_core.specs.Agreement.{Agrees}
use Rattle.cbs_core.specs.Held.{CoreHeld, front_output, held_at}
use Rattle.cbs_steps.specs.History.{◌⊕◌, world_after, reply_in}
use Rattle.cbs_steps.specs.Punctual.{IsPunctual}
use Rattle.cbs_steps.specs.Quiet.{AreQuiet, AdvanceQuietly}
use Rattle.cbs_steps.specs.declared.reply.Ran.{Ran}
use Rattle.cbs_steps.specs.declared.reply.Ran.TheVariants as ran
use Rattle.cbsrun_events.specs.declared.seen.Event.{Event}
use Rattle.cbsrun_events.specs.declared.seen.Seen.{Seen}
use Rattle.cbsrun_simulate.specs.Moves.{Move, owing_of, step_of, Simulation, clock_of, next_of, owing_after, after_move}
use Rattle.cbsrun_simulate.specs.Moves.{after_moves, AreNext, AreMoves, moves_of, submitted}
use Rattle.cbsrun_simulate.specs.MoveLaws.{AllMoves, MovesQuietly, ChargesOwed, EachOnTick, IsOnTick}
use Rattle.cbsrun_simulate.specs.Releases.{before}
use Rattle.cbsrun_simulate.specs.Shown.{event_of, seen_of, shown}
use Rattle.cbsrun_simulate.specs.declared.charge.Charge.{Charge}
use Rattle.cbsrun_simulate.specs.declared.release.Release.{Release}

-- the tick up to which no release comes, but no later than `until`
abbrev pub stop_at : ℕ → List Release → ℕ
stop_at until [] = until
stop_at until (r ∷ rs) = min r.tick until

-- the charge that is owed for a run, as the core that made the run shows it
abbrev pub owing_told : {W : Type 0} → Meaning W → CoreHeld W → Ran → Option Charge
owing_told work core (ran.Unit s q) = option_and_then (owing_of s) (front_output work (held_at core s).jobs)
owing_told work core (ran.Done c) = owing_of c.server c.result
owing_told work core _ = None

module _ {W : Type 0} (work : Meaning W) (job : Release → W) where
  -- a core made this move of the simulation. This is its event, and this charge is then owed
  pub record DoesMove (sim : Simulation W) (m : Move) (new : CoreHeld W) (e : Event) (owing : Option Charge) : Type 0 where
    pub event : e ≡ event_of work (world_after work (sim.history ⊕ step_of work job m)) m (reply_in work sim.history (step_of work job m))
    pub state : Agrees work new (sim.history ⊕ step_of work job m)
    pub owed : owing ≡ owing_after work job sim m

  -- a core made this move of the simulation, and a view saw it
  pub record MakesMove {S : Type 0} (saw : S → S → List Seen → Type 0) (sim : Simulation W) (m : Move) (new : CoreHeld W) (w v : S) : Type 0 where
    pub state : Agrees work new (after_move work job sim m).history
    pub seen : (first : S) (seen : List Seen) → saw first w seen → saw first v (seen_of work job sim m ∷ seen)

  -- a view that had seen some steps then saw what the moves show, or failed to see the last of them
  abbrev pub SawOrFailed : {S : Type 0} → (S → S → List Seen → Type 0) → (S → S → List Seen → Type 0) → Simulation W → List Move → S → S → Type 0
  SawOrFailed {S} saw failed sim ms w v =
      (first : S) (seen : List Seen) → saw first w seen → saw first v (shown work job sim ms seen) ⊎ failed first v (shown work job sim ms seen)

  -- a core stopped after some moves of the simulation, each the next one where it stands. The view saw them, or
  -- failed to see the last one
  pub record Stops {S : Type 0} (until : ℕ) (saw failed : S → S → List Seen → Type 0) (sim : Simulation W) (new : CoreHeld W) (w v : S) : Type 0 where
    pub moves : List Move
    pub each : AreNext work job until sim moves
    pub state : Agrees work new (after_moves work job sim moves).history
    pub seen : SawOrFailed saw failed sim moves w v

  -- if this is the next move, the core stopped at the latest after it
  abbrev pub StopsAt : {S : Type 0} → (S → S → List Seen → Type 0) → (S → S → List Seen → Type 0) → Simulation W → Move → CoreHeld W → S → S → Type 0
  StopsAt saw failed sim m new w v = (until : ℕ) → next_of work job until sim ≡ Some m → Stops until saw failed sim new w v

  -- a view saw the first moves of the simulation, up to some move, or failed to see the last of these
  pub record SeesSome {S : Type 0} (until : ℕ) (saw failed : S → S → List Seen → Type 0) (sim : Simulation W) (w v : S) : Type 0 where
    pub done : List Move
    pub left : List Move
    pub all : done ++ left ≡ moves_of work job until sim
    pub seen : SawOrFailed saw failed sim done w v

  -- A core simulated a load. Its steps are the moves of the definition, all of them and no others, and the view saw
  -- what they show. Each release before `until` was submitted once, in order. It was submitted at its tick, or as soon
  -- as a charge ended that had carried the clock past its tick. Each unit was charged its overrun, every advance was
  -- quiet, and the clock is at `until`.
  pub record Simulates {S : Type 0} (until : ℕ) (saw : S → S → List Seen → Type 0) (sim : Simulation W) (new : CoreHeld W) (w v : S) : Type 0 where
    pub state : Agrees work new (after_moves work job sim (moves_of work job until sim)).history
    pub all : AreMoves work job until sim (moves_of work job until sim)
    pub only : (ms : List Move) → AreMoves work job until sim ms → ms ≡ moves_of work job until sim
    pub seen : (first : S) (seen : List Seen) → saw first w seen → saw first v (shown work job sim (moves_of work job until sim) seen)
    pub submits : submitted (moves_of work job until sim) ≡ before until sim.coming
    pub on_tick : EachOnTick work job (clock_of work job sim) sim (moves_of work job until sim)
    pub charges : AllMoves work job (ChargesOwed work job until) sim (moves_of work job until sim)
    pub quiet : AllMoves work job (MovesQuietly work job) sim (moves_of work job until sim)
    pub clock : new.clock ≡ until

  -- the release is submitted exactly at its tick
  abbrev pub IsAtTick : Simulation W → Move → Type 0
  IsAtTick sim m = IsOnTick (clock_of work job sim) (clock_of work job sim) m

  -- A core that was made for a load simulated it. The laws of a history then hold with no premise left. If no release
  -- has an overrun, each is submitted exactly at its tick, and no step takes any server's time.
  pub record SimulatesAlone {S : Type 0} (until : ℕ) (saw : S → S → List Seen → Type 0) (sim : Simulation W) (new : CoreHeld W) (w v : S) : Type 0 where
    pub simulates : Simulates until saw sim new w v
    pub punctual : IsPunctual work (after_moves work job sim (moves_of work job until sim)).history
    pub advances : let N = (after_moves work job sim (moves_of work job until sim)).history in AdvanceQuietly work N.setup N.steps
    pub at_tick : AllByRecursion (λ r. r.overrun ≡ 0) sim.coming → AllMoves work job IsAtTick sim (moves_of work job until sim)
    pub uncharged : AllByRecursion (λ r. r.overrun ≡ 0) sim.coming
        → (let N = (after_moves work job sim (moves_of work job until sim)).history in AreQuiet work N.setup N.steps)
