-- Runs of a house until every server is closed and every job is finished, with a meter that may return what `may`
-- allows.
use Rattle.std.specs.Prelude.{ℕ, ◌≡◌, ◌+◌, ◌<◌, Bool, true, false, not, ◌||◌, ltb, if◌then◌else◌, List, [], ◌∷◌, length, Option, Some, None, Result, Ok, Err}
use Rattle.std.specs.List.{count_by}
use Rattle.cbs_job.specs.Work.{Meaning}
use Rattle.cbs_job.specs.declared.completion.Completion.{Completion}
use Rattle.cbs_job.specs.declared.work.Work.{Ghosts}
use Rattle.cbs_core.specs.Held.{CoreHeld, IsOpen, IsClosed, HoldsNoJob, IsAtEnd}
use Rattle.cbs_steps.specs.declared.reply.Ran.{Ran}
use Rattle.cbs_steps.specs.declared.reply.Ran.TheVariants as ran
use Rattle.cbs_clients.specs.declared.error.HouseError.{HouseError}
use Rattle.cbs_clients.specs.declared.error.HouseError.TheVariants.{OutOfMemory, ClockEnd, Stalled}
use Rattle.cbs_clients.specs.declared.house.House.{House}
use Rattle.cbs_host.specs.declared.poll.Poll.TheVariants as poll
use Rattle.cbs_clients.specs.declared.turn.Turn.{Turn}
use Rattle.cbs_clients.specs.Houses.{core_of, Polled, ServesBy}
use Rattle.cbs_clients.specs.Turns.{TakesOwnTurn}
use Rattle.cbs_clients.specs.Sinks.{Tells}

-- every server is closed
abbrev pub AllClosed : {W : Type 0} → CoreHeld W → Type 0
AllClosed core = (s : ℕ) → s < length core.faces → IsClosed core s

-- how many servers are open
abbrev pub open_servers : {W : Type 0} → CoreHeld W → ℕ
open_servers core = count_by (λ f. not f.closed) core.faces

-- every server is closed and every job is finished
pub record IsOver {W : Type 0} (core : CoreHeld W) : Type 0 where
  pub closed : AllClosed core
  pub drained : HoldsNoJob core

-- whether the clock is later, or fewer servers are open
abbrev pub moves_on : {W : Type 0} → CoreHeld W → CoreHeld W → Bool
moves_on old new = ltb old.clock new.clock || ltb (open_servers new) (open_servers old)

-- how many turns in a row were idle, after one more turn: a turn is idle if the clock stays and no server is closed
abbrev pub idle_after : {W : Type 0} → ℕ → CoreHeld W → CoreHeld W → ℕ
idle_after idle old new = if moves_on old new then 0 else idle + 1

-- whether a run met the clock's end
abbrev pub meets_end : Ran → Bool
meets_end ran.Idle = false
meets_end ran.ClockEnd = true
meets_end (ran.Unit s q) = false
meets_end (ran.Done c) = false

-- why a turn stops a run, if it does: a poll was out of memory, or the clock is at its end with unfinished jobs
abbrev pub turn_stop : Turn → Option HouseError
turn_stop t = if t.out_of_memory then Some OutOfMemory else if meets_end t.ran then Some ClockEnd else None

-- a turn is due: the run is not over, and fewer than `most` turns in a row were idle
pub record IsDue {W : Type 0} (most idle : ℕ) (core : CoreHeld W) : Type 0 where
  pub unfinished : ¬ IsOver core
  pub patient : idle < most

module _ {W A : Type 0} {g : Ghosts W} where
  -- The house took these turns, one after another, each when one was due, and none of them stopped the run. `idle`
  -- turns in a row were idle before them, and `later` after them.
  abbrev pub TakesDueTurns : Meaning W → (ℕ → ℕ → Type 0) → ℕ → ℕ → House W A g → List Turn → House W A g → ℕ → Type 0
  TakesDueTurns work may most idle old [] new later = (new ≡ old) × (later ≡ idle)
  TakesDueTurns work may most idle old (t ∷ ts) new later =
      (next : House W A g) × IsDue most idle (core_of old) × TakesOwnTurn work may old next t × (turn_stop t ≡ None)
      × TakesDueTurns work may most (idle_after idle (core_of old) (core_of next)) next ts new later

  -- the house took turns when they were due, and the last `idle` of them in a row were idle
  pub record RunsOn (work : Meaning W) (may : ℕ → ℕ → Type 0) (most : ℕ) (old new : House W A g) (idle : ℕ) : Type 0 where
    pub turns : List Turn
    pub taken : TakesDueTurns work may most 0 old turns new idle

  -- the house took turns when they were due, and the last one stopped the run
  pub record IsStoppedBy (work : Meaning W) (may : ℕ → ℕ → Type 0) (most : ℕ) (error : HouseError) (old new : House W A g) : Type 0 where
    pub before : House W A g
    pub idle : ℕ
    pub run : RunsOn work may most old before idle
    pub due : IsDue most idle (core_of before)
    pub turn : Turn
    pub taken : TakesOwnTurn work may before new turn
    pub why : turn_stop turn ≡ Some error

  -- When a run ends, by its result. It ends when all is over, or when a turn stopped it. It also ends when `most` turns
  -- in a row were idle and not all is over.
  abbrev pub RunEnds : Meaning W → (ℕ → ℕ → Type 0) → ℕ → House W A g → Result (Unit {0}) HouseError → House W A g → Type 0
  RunEnds work may most old (Ok x) new = ((idle : ℕ) × RunsOn work may most old new idle) × IsOver (core_of new)
  RunEnds work may most old (Err Stalled) new = RunsOn work may most old new most × (¬ IsOver (core_of new))
  RunEnds work may most old (Err OutOfMemory) new = IsStoppedBy work may most OutOfMemory old new
  RunEnds work may most old (Err ClockEnd) new = IsStoppedBy work may most ClockEnd old new
  RunEnds work may most old (Err _) new = ⊥

  -- among the steps of serving that led here was a poll that saw a message but was out of memory for it
  pub record LackedMemory (work : Meaning W) (may : ℕ → ℕ → Type 0) (old new : House W A g) : Type 0 where
    pub before : House W A g
    pub after : House W A g
    pub server : ℕ
    pub first : ServesBy work may old before
    pub polled : Polled work before server poll.OutOfMemory after
    pub rest : ServesBy work may after new

  -- the house made steps of serving, and a sink was given the completions of these steps
  pub record RunsTelling {S : Type 0} (work : Meaning W) (may : ℕ → ℕ → Type 0) (hears : S → Completion → S → Type 0) (old_house new_house : House W A g) (old new : S) : Type 0 where
    pub steps : ServesBy work may old_house new_house
    pub told : Tells hears old_house new_house old new

  -- no job is held, but some server is open
  pub record IsWaiting (h : House W A g) : Type 0 where
    pub drained : HoldsNoJob (core_of h)
    pub unclosed : (s : ℕ) × IsOpen (core_of h) s

  -- What an error of a run says. OutOfMemory: a poll was out of memory. ClockEnd: the clock is at its end with a job
  -- unfinished. Stalled: no job is held, but some server is open
  abbrev pub RunStops : Meaning W → (ℕ → ℕ → Type 0) → HouseError → House W A g → House W A g → Type 0
  RunStops work may OutOfMemory old new = LackedMemory work may old new
  RunStops work may ClockEnd old new = IsAtEnd (core_of new)
  RunStops work may Stalled old new = IsWaiting new
  RunStops work may _ old new = ⊥

-- the result of one turn of a run: whether the turn moved on, or the error that stopped the run
abbrev pub IsToldOf : {W : Type 0} → Turn → Result Bool HouseError → CoreHeld W → CoreHeld W → Type 0
IsToldOf turn (Ok moved) old new = (turn_stop turn ≡ None) × (moved ≡ moves_on old new)
IsToldOf turn (Err error) old new = turn_stop turn ≡ Some error

module _ {W A : Type 0} {g : Ghosts W} where
  -- the house took one turn of a run, and the turn had this result
  pub record TakesTurnOfRun (work : Meaning W) (may : ℕ → ℕ → Type 0) (old new : House W A g) (told : Result Bool HouseError) : Type 0 where
    pub turn : Turn
    pub taken : TakesOwnTurn work may old new turn
    pub is : IsToldOf turn told (core_of old) (core_of new)
