-- What a pacer does to its house.
use Rattle.std.specs.Prelude.{ℕ, ◌≡◌, ◌≤◌, ◌<◌, ◌+◌, ◌-◌, min, if◌then◌else◌, Bool, true, false, List, [], ◌∷◌, length, Option, Some, None}
use Rattle.cbs_job.specs.Work.{Meaning}
use Rattle.cbs_job.specs.declared.work.Work.{Ghosts}
use Rattle.cbs_rules.specs.Rules.{clock_end}
use Rattle.cbs_steps.specs.History.{History, world_after}
use Rattle.cbs_steps.specs.Quiet.{IsQuiet, IsAtRest, IsIdleSpan}
use Rattle.cbs_steps.specs.declared.step.Step.{Step}
use Rattle.cbs_steps.specs.declared.step.Step.TheVariants as step
use Rattle.cbs_core.specs.Agreement.{Agrees}
use Rattle.cbs_core.specs.Held.{is_running}
use Rattle.cbs_clients.specs.declared.house.House.{House}
use Rattle.cbs_clients.specs.Houses.{core_of, Made}
use Rattle.cbs_clients.specs.Meters.{charge_steps}
use Rattle.cbs_clients.specs.Turns.{PollsEach}
use Rattle.cbs_clients.specs.Calls.{RunOf, SpanOf}
use Rattle.cbs_clients.specs.UntilClosed.{IsOver}
use Rattle.cbs_steps.specs.declared.reply.Ran.{Ran}
use Rattle.cbs_steps.specs.declared.reply.Ran.TheVariants as ran
use Rattle.cbs_pace.specs.Times.{most}
use Rattle.cbs_pace.specs.Paces.{Pacing, pacing_seen, pacing_with_behind, pacing_with_charge, pacing_with_unit, unit_charge, behind_of, IsDue}
use Rattle.cbs_pacer.specs.declared.pacer.Pacer.{Pacer}
use Rattle.cbs_pacer.specs.declared.next.Next.{Next}
use Rattle.cbs_pacer.specs.declared.next.Next.TheVariants as next

-- What a pacer keeps: the pace, and the server whose unit is being done, if one is. Whether the
-- host listens for its bell, and how many messages the last polls took
pub record Paced : Type 0 where
  pub pace : Pacing
  pub doing : Option ℕ
  pub listens : Bool
  pub taken : ℕ

-- the server whose unit is being done, if one is
abbrev pub doing_of : Pacer → Option ℕ
doing_of p = if p.does then Some p.server else None

abbrev pub paced_of : Pacer → Paced
paced_of p = record { pace = p.pace; doing = doing_of p; listens = p.listens; taken = p.taken }

-- the same at one more reading
abbrev pub paced_seen : ℕ → Pacer → Paced
paced_seen reading p = record (paced_of p) { pace = pacing_seen reading p.pace }

module _ {W : Type 0} where
  -- the steps that pay for a unit, if there was one
  abbrev pub payment : Option ℕ → ℕ → List (Step W)
  payment None n = []
  payment (Some s) n = charge_steps s n

-- How many ticks are charged for a unit, if there was one: what its pace says, as far as the
-- house's clock can hold it
abbrev pub ticks_due : Option ℕ → Pacing → ℕ → ℕ → ℕ
ticks_due None p took now = 0
ticks_due (Some s) p took now = min (unit_charge p s took) (clock_end - now)

-- the pace after a unit, if there was one, for which so many ticks were charged
abbrev pub pace_paid : Option ℕ → Pacing → ℕ → ℕ → Pacing
pace_paid None p took ticks = p
pace_paid (Some s) p took ticks = pacing_with_charge ticks (pacing_with_unit p s took)

-- how many ticks pass, by the idle span, if nobody is ready, and by how many the clock is behind
abbrev pub ticks_to_pass : Option ℕ → ℕ → ℕ
ticks_to_pass None behind = 0
ticks_to_pass (Some span) behind = min span behind

-- the server whose unit was done still runs: nothing else was done with the house meanwhile
abbrev pub StillRuns : {W A : Type 0} {g : Ghosts W} → Option ℕ → House W A g → Type 0
StillRuns None h = Unit {0}
StillRuns (Some s) h = is_running (core_of h) s ≡ true

module _ {W A : Type 0} {g : Ghosts W} where
  -- The unit that was being done was paid for, which took so long. If its server still runs, it was
  -- charged what its pace says, as far as the house's clock can hold it
  pub record PaysUnit (work : Meaning W) (took : ℕ) (doing : Option ℕ) (p : Pacing)
      (old new : House W A g) (q : Pacing) : Type 0 where
    pub ticks : ℕ
    pub made : Made work old new (payment doing ticks)
    pub most : ticks ≤ ticks_due doing p took (core_of old).clock
    pub in_full : StillRuns doing old → ticks ≡ ticks_due doing p took (core_of old).clock
    pub pace : q ≡ pace_paid doing p took ticks

  -- The house let the ticks pass by which its clock was behind, as long as nobody was ready
  pub record Passes (work : Meaning W) (p : Pacing) (old new : House W A g) (q : Pacing)
      : Type 0 where
    pub span : Option ℕ
    pub idle : SpanOf work old span
    pub ticks : ℕ
    pub passed : ticks ≡ ticks_to_pass span (behind_of p (core_of old).clock)
    pub made : Made work old new (step.Advance ticks ∷ [])
    pub quiet : (M : History W) → Agrees work (core_of old) M
        → IsQuiet work (world_after work M) ticks
    pub pace : q ≡ pacing_with_behind (behind_of p (core_of old).clock - ticks) p

module _ {W A : Type 0} {g : Ghosts W} where
  -- The unit that was being done was paid for, the ticks passed that are over, and each server was
  -- polled once
  pub record Prepares (work : Meaning W) (took : ℕ) (doing : Option ℕ) (p : Pacing)
      (old new : House W A g) (q : Pacing) (count : ℕ) (out_of_memory : Bool) : Type 0 where
    pub paid : House W A g
    pub after : Pacing
    pub pays : PaysUnit work took doing p old paid after
    pub caught_up : House W A g
    pub passes : Passes work after paid caught_up q
    pub polls : PollsEach work (length (core_of caught_up).faces) caught_up new count out_of_memory

-- the host is told to sleep until a tick comes
abbrev pub AsksToSleep : Next → Type 0
AsksToSleep (next.SleepUntil until) = Unit {0}
AsksToSleep _ = ⊥

-- the result of the run whose unit the host does, or that none is done
abbrev pub ran_next : Next → Ran
ran_next (next.Do told) = told
ran_next (next.SleepUntil until) = ran.Idle
ran_next next.Listen = ran.Idle
ran_next (next.WaitUntil until) = ran.Idle
ran_next next.Over = ran.Idle
ran_next next.ClockEnd = ran.Idle
ran_next next.OutOfMemory = ran.Idle

-- the server that got a unit, by the result of a run
abbrev pub server_ran : Ran → Option ℕ
server_ran ran.Idle = None
server_ran ran.ClockEnd = None
server_ran (ran.Unit s q) = Some s
server_ran (ran.Done c) = Some c.server

module _ {W A : Type 0} {g : Ghosts W} where
  -- A unit was begun: its tick had come. The pacer knows whose it is
  pub record Begins (work : Meaning W) (p : Pacing) (old : House W A g) (told : Ran)
      (new : House W A g) (doing : Option ℕ) : Type 0 where
    pub run : RunOf work old told new
    pub due : IsDue p (core_of old).clock
    pub server : doing ≡ server_ran told
    pub some : (s : ℕ) × (server_ran told ≡ Some s)

  -- The host sleeps, since the tick of the next unit has not come. It has come at each reading from
  -- that time on, and at none before
  pub record Sleeps (p : Pacing) (h : House W A g) (until : ℕ) : Type 0 where
    pub early : ¬ IsDue p (core_of h).clock
    pub comes : (reading : ℕ) → until < most → until ≤ reading
        → IsDue (pacing_seen reading p) (core_of h).clock
    pub not_before : (reading : ℕ) → reading < until
        → ¬ IsDue (pacing_seen reading p) (core_of h).clock

  -- nobody is ready
  abbrev pub Rests : Meaning W → House W A g → Type 0
  Rests work h = (M : History W) → Agrees work (core_of h) M → IsAtRest work (world_after work M)

  -- The host waits, since nobody is ready. At each reading from that time on, the ticks are over
  -- for which nobody will be ready
  pub record Waits (work : Meaning W) (p : Pacing) (h : House W A g) (until : ℕ) : Type 0 where
    pub span : ℕ
    pub idle : (M : History W) → Agrees work (core_of h) M
        → IsIdleSpan work (world_after work M) span
    pub comes : (reading : ℕ) → until < most → until ≤ reading
        → IsDue (pacing_seen reading p) ((core_of h).clock + span)
    pub not_before : (reading : ℕ) → reading < until
        → IsDue (pacing_seen reading p) ((core_of h).clock + span) → IsDue p ((core_of h).clock + span)

  -- What the host does next, by the house before and after, if there was memory for each message.
  -- `heard` says whether it listened for its bell, `count` how many messages were taken, and
  -- `hears` whether it listens from now on. It waits only if it listened and no message was taken
  abbrev pub Does : Meaning W → Pacing → Bool → ℕ → House W A g → Next → House W A g → Option ℕ
      → Bool → Type 0
  Does work p heard count old (next.Do told) new doing hears =
      Begins work p old told new doing × (hears ≡ false)
  Does work p heard count old (next.SleepUntil until) new doing hears =
      Sleeps p old until × (new ≡ old) × (doing ≡ None) × (hears ≡ false)
  Does work p heard count old next.Listen new doing hears =
      Rests work old × (new ≡ old) × (doing ≡ None) × (hears ≡ true) × (heard ≡ true → 0 < count)
      × ¬ IsOver (core_of old)
  Does work p heard count old (next.WaitUntil until) new doing hears =
      Waits work p old until × (new ≡ old) × (doing ≡ None) × (heard ≡ true) × (count ≡ 0)
      × (hears ≡ false) × ¬ IsOver (core_of old)
  Does work p heard count old next.Over new doing hears =
      IsOver (core_of old) × (new ≡ old) × (doing ≡ None)
  Does work p heard count old next.ClockEnd new doing hears =
      ((core_of old).clock ≡ clock_end) × (new ≡ old) × (doing ≡ None)
  Does work p heard count old next.OutOfMemory new doing hears = ⊥

  -- the answer: if a poll found no memory for a message, that, and nothing is done
  abbrev pub Answers : Bool → Meaning W → Pacing → Bool → ℕ → House W A g → Next → House W A g
      → Option ℕ → Bool → Type 0
  Answers true work p heard count old answer new doing hears =
      (answer ≡ next.OutOfMemory) × (new ≡ old) × (doing ≡ None)
  Answers false work p heard count old answer new doing hears =
      Does work p heard count old answer new doing hears

  -- The unit that was being done was paid for, which took so long. The ticks passed that are over,
  -- each server was polled, and the host was told what it does next
  pub record Paces (work : Meaning W) (took : ℕ) (p : Paced) (old : House W A g) (answer : Next)
      (new : House W A g) (q : Paced) : Type 0 where
    pub between : House W A g
    pub out_of_memory : Bool
    pub prepares : Prepares work took p.doing p.pace old between q.pace q.taken out_of_memory
    pub answers : Answers out_of_memory work q.pace p.listens q.taken between answer new q.doing
        q.listens
