-- What a core holds, and what each call does to it.
use Rattle.std.specs.Prelude.{◌≡◌, ◌≢◌, ℕ, ◌+◌, ◌<◌, ◌≤◌, Bool, true, false, not, ◌&&◌, eqb, leb, drop, if◌then◌else◌, List, [], ◌∷◌, ◌++◌, length, map, get_or, Option, Some, None}
use Rattle.cbs_job.specs.Work.{Meaning, whole}
use Rattle.cbs_job.specs.declared.completion.Completion.{Completion}
use Rattle.cbs_rules.specs.Rules.{clock_end}
use Rattle.cbs_lists.specs.Lists.{changed_at}
use Rattle.cbs_steps.specs.Faces.{Face, face_at, backlog_of}
pub use Rattle.cbs_queues.specs.Queues.{room_of, KeepsRoom, front_output}
use Rattle.cbs_steps.specs.Laws.{IsWithinBudget}
use Rattle.cbs_steps.specs.OnTime.{IsOnTime}
use Rattle.cbs_steps.specs.Paced.{Pace, IsPaced}
use Rattle.cbs_core.specs.declared.last_unit.LastUnit.{LastUnit}
use Rattle.cbs_steps.specs.declared.error.CoreError.{CoreError}
use Rattle.cbs_steps.specs.declared.error.CoreError.TheVariants as error
use Rattle.cbs_steps.specs.declared.reply.Ran.{Ran}
use Rattle.cbs_steps.specs.declared.reply.Ran.TheVariants as ran

-- the server of the last unit, if it still runs: the clock differs from the clock after the last advance
abbrev pub runner_at : ℕ → LastUnit → Option ℕ
runner_at now l = if eqb l.advanced_to now then None else Some l.server

-- how many ticks were charged for the last unit
abbrev pub charged_at : ℕ → LastUnit → ℕ
charged_at now l = if eqb l.charged_to now then l.charged else 0

-- what a core holds: the greatest backlog, the clock, what is known of the last unit, and what each server shows. It
-- also holds each server's unfinished jobs in order, each with its progress, and the number of further jobs that fit
-- without an allocation
pub record CoreHeld (W : Type 0) : Type 0 where
  pub backlog : ℕ
  pub clock : ℕ
  pub last : LastUnit
  pub faces : List Face
  pub queues : List (List W)
  pub rooms : List ℕ

-- what a core holds of one server: what it shows, and its unfinished jobs
pub record Held (W : Type 0) : Type 0 where
  pub face : Face
  pub jobs : List W

-- the option holds a number, and it is this one
abbrev pub is_some_of : Option ℕ → ℕ → Bool
is_some_of None s = false
is_some_of (Some t) s = eqb t s

-- the face after a job of the server ended before its last unit
abbrev pub with_job_ended : Face → Face
with_job_ended f = record f { finished = f.finished + 1 }

module _ {W : Type 0} where
  -- what the core holds of server s
  abbrev pub held_at : CoreHeld W → ℕ → Held W
  held_at core s = record { face = face_at core.faces s; jobs = get_or core.queues s [] }

  -- the server that runs, if there is one: it got the last unit, and no tick has passed since, except those charged for
  -- that unit
  abbrev pub running : CoreHeld W → Option ℕ
  running core = runner_at core.clock core.last

  -- server s runs
  abbrev pub is_running : CoreHeld W → ℕ → Bool
  is_running core s = is_some_of (running core) s

  -- The job that got the last unit may be ended: it is one of server s, which runs; that unit was not its last, and no
  -- job was handed to s since
  abbrev pub may_end : CoreHeld W → ℕ → Bool
  may_end core s = is_running core s && core.last.unfinished

  -- why an end of that job is refused, if it is
  abbrev pub end_refusal : CoreHeld W → ℕ → Option CoreError
  end_refusal core s = if leb (length core.faces) s then Some error.NoSuchServer else if may_end core s then None else Some error.NotRunning

  -- The core after the job of s that got the last unit was ended: the job is gone, and s shows one more finished job.
  -- Nothing else differs
  abbrev pub ended_at : ℕ → CoreHeld W → CoreHeld W
  ended_at s core = record core {
    last = record core.last { unfinished = false };
    faces = changed_at with_job_ended core.faces s;
    queues = changed_at (drop 1) core.queues s;
  }

  -- what is known of the last unit after server s accepted a job
  abbrev pub last_joined : CoreHeld W → ℕ → LastUnit
  last_joined core s = record core.last { unfinished = core.last.unfinished && not (eqb core.last.server s) }

  -- the core holds a job: an accepted job is not finished
  abbrev pub HoldsJob : CoreHeld W → Type 0
  HoldsJob core = (s : ℕ) × (0 < length (held_at core s).jobs)

  -- the clock stands at its end, with a job unfinished
  abbrev pub IsAtEnd : CoreHeld W → Type 0
  IsAtEnd core = (core.clock ≡ clock_end) × HoldsJob core

  -- the core holds no job: every accepted job is finished
  abbrev pub HoldsNoJob : CoreHeld W → Type 0
  HoldsNoJob core = (s : ℕ) → (held_at core s).jobs ≡ []

-- server s is there and open
pub record IsOpen {W : Type 0} (core : CoreHeld W) (s : ℕ) : Type 0 where
  pub within : s < length core.faces
  pub unclosed : (face_at core.faces s).closed ≡ false

-- server s is there and closed
pub record IsClosed {W : Type 0} (core : CoreHeld W) (s : ℕ) : Type 0 where
  pub within : s < length core.faces
  pub closed : (face_at core.faces s).closed ≡ true

-- server s would accept a job: the server is open, and its backlog is not full
pub record Accepts {W : Type 0} (core : CoreHeld W) (s : ℕ) : Type 0 where
  pub is_open : IsOpen core s
  pub few : backlog_of (face_at core.faces s) < core.backlog

-- server s accepts its next job without an allocation
pub record HasRoom {W : Type 0} (core : CoreHeld W) (s : ℕ) : Type 0 where
  pub accepts : Accepts core s
  pub room : 0 < room_of core.rooms s

-- why the next job of s is refused, by what the core holds. Memory refuses only a job that nothing else refuses
abbrev pub IsRefusedBy : {W : Type 0} → CoreHeld W → ℕ → CoreError → Type 0
IsRefusedBy core s error.NoSuchServer = length core.faces ≤ s
IsRefusedBy core s error.Closed = IsClosed core s
IsRefusedBy core s error.BacklogFull = IsOpen core s × (core.backlog ≤ backlog_of (face_at core.faces s))
IsRefusedBy core s error.OutOfMemory = Accepts core s
IsRefusedBy core s _ = ⊥

-- a server's jobs, counts and close are as before; its budget and deadline may differ
pub record SameJobs {W : Type 0} (old new : Held W) : Type 0 where
  pub jobs : new.jobs ≡ old.jobs
  pub accepted : new.face.accepted ≡ old.face.accepted
  pub finished : new.face.finished ≡ old.face.finished
  pub closed : new.face.closed ≡ old.face.closed

-- the server accepted a job, as number q, after its other jobs
pub record TakesJob {W : Type 0} (job : W) (q : ℕ) (old new : Held W) : Type 0 where
  pub number : q ≡ old.face.accepted
  pub jobs : new.jobs ≡ old.jobs ++ job ∷ []
  pub accepted : new.face.accepted ≡ old.face.accepted + 1
  pub finished : new.face.finished ≡ old.face.finished
  pub closed : new.face.closed ≡ old.face.closed

-- a unit of job q ran, which is the server's first job before and after. The whole results of the jobs held are as
-- before
pub record RunsJob {W : Type 0} (work : Meaning W) (q : ℕ) (old new : Held W) : Type 0 where
  pub number : q ≡ old.face.finished
  pub some : 0 < length new.jobs
  pub results : map (whole work) new.jobs ≡ map (whole work) old.jobs
  pub accepted : new.face.accepted ≡ old.face.accepted
  pub finished : new.face.finished ≡ old.face.finished
  pub closed : new.face.closed ≡ old.face.closed

-- the last unit of the server's first job ran: the job is gone, and the completion gives its whole result
pub record FinishesJob {W : Type 0} (work : Meaning W) (c : Completion) (old new : Held W) : Type 0 where
  pub number : c.seq ≡ old.face.finished
  pub results : map (whole work) old.jobs ≡ c.result ∷ map (whole work) new.jobs
  pub accepted : new.face.accepted ≡ old.face.accepted
  pub finished : new.face.finished ≡ old.face.finished + 1
  pub closed : new.face.closed ≡ old.face.closed

-- The server's first job ended before its last unit: the job is gone, and the completion gives its output so far
pub record EndsJob {W : Type 0} (work : Meaning W) (c : Completion) (old new : Held W) : Type 0 where
  pub number : c.seq ≡ old.face.finished
  pub result : front_output work old.jobs ≡ Some c.result
  pub jobs : new.jobs ≡ drop 1 old.jobs
  pub accepted : new.face.accepted ≡ old.face.accepted
  pub finished : new.face.finished ≡ old.face.finished + 1
  pub closed : new.face.closed ≡ old.face.closed

-- the server was closed
pub record ClosesServer {W : Type 0} (old new : Held W) : Type 0 where
  pub jobs : new.jobs ≡ old.jobs
  pub accepted : new.face.accepted ≡ old.face.accepted
  pub finished : new.face.finished ≡ old.face.finished
  pub closed : new.face.closed ≡ true

-- the result of a Run after a unit of job seq of server s, by the output that the unit gave
abbrev pub ran_of : ℕ → ℕ → Option ℕ → Ran
ran_of s seq None = ran.Unit s seq
ran_of s seq (Some r) = ran.Done (record { server = s; seq = seq; result = r })

module _ {W : Type 0} where
  -- the jobs, counts and close of every server but s are as before
  abbrev pub OthersSame : ℕ → CoreHeld W → CoreHeld W → Type 0
  OthersSame s old new = (t : ℕ) → t ≢ s → SameJobs (held_at old t) (held_at new t)

  -- the jobs, counts and close of every server are as before
  abbrev pub AllSame : CoreHeld W → CoreHeld W → Type 0
  AllSame old new = (t : ℕ) → SameJobs (held_at old t) (held_at new t)

  -- Whether the job that got the last unit may be ended after a Run, by the result of the Run
  abbrev pub LeavesUnit : Ran → CoreHeld W → Type 0
  LeavesUnit ran.Idle new = Unit {0}
  LeavesUnit ran.ClockEnd new = Unit {0}
  LeavesUnit (ran.Unit s q) new = may_end new s ≡ true
  LeavesUnit (ran.Done c) new = may_end new c.server ≡ false

  -- what a Run did to the jobs, by its result
  abbrev pub DoesRun : Meaning W → Ran → CoreHeld W → CoreHeld W → Type 0
  DoesRun work ran.Idle old new = new ≡ old
  DoesRun work ran.ClockEnd old new = new ≡ old
  DoesRun work (ran.Unit s q) old new = RunsJob work q (held_at old s) (held_at new s) × OthersSame s old new
  DoesRun work (ran.Done c) old new = FinishesJob work c (held_at old c.server) (held_at new c.server) × OthersSame c.server old new

  -- the completion, if there is one, has the number that the count of finished jobs had before, and the counts go on by
  -- it
  abbrev pub CountsOn : Option Completion → CoreHeld W → CoreHeld W → Type 0
  CountsOn None old new = (s : ℕ) → (held_at new s).face.finished ≡ (held_at old s).face.finished
  CountsOn (Some c) old new =
      (c.seq ≡ (held_at old c.server).face.finished) × ((held_at new c.server).face.finished ≡ (held_at old c.server).face.finished + 1)
      × ((s : ℕ) → s ≢ c.server → (held_at new s).face.finished ≡ (held_at old s).face.finished)

-- the budget of each server is at most the budget of its reservation
abbrev pub KeepsBudgets : {W : Type 0} → CoreHeld W → Type 0
KeepsBudgets core = (s : ℕ) → s < length core.faces → IsWithinBudget (face_at core.faces s)

-- the core is on time
abbrev pub IsCoreOnTime : {W : Type 0} → CoreHeld W → Type 0
IsCoreOnTime core = IsOnTime core.clock core.faces

module _ {W : Type 0} where
  -- what pacing looks at in server s, which shows this
  abbrev pub pace_at : CoreHeld W → ℕ → Face → Pace
  pace_at core s f = record { face = f; runs = is_running core s; holds = if is_running core s then charged_at core.clock core.last else f.charges.most }

  -- what it looks at in the servers from number s on, which show these
  abbrev pub paces_from : CoreHeld W → ℕ → List Face → List Pace
  paces_from core s [] = []
  paces_from core s (f ∷ fs) = pace_at core s f ∷ paces_from core (s + 1) fs

  -- the core is paced: on time but for charges
  abbrev pub IsCorePaced : CoreHeld W → Type 0
  IsCorePaced core = IsPaced core.clock (paces_from core 0 core.faces)
