-- A turn of a house: a poll of each server, and what comes after the polls.
use Rattle.std.specs.Prelude.{ℕ, ◌≡◌, ◌+◌, Bool, true, false, List, [], ◌∷◌, length, ◌⊎◌, ◌≤◌, ◌<◌}
use Rattle.std.specs.List.{list_any}
use Rattle.cbs_job.specs.Work.{Meaning}
use Rattle.cbs_job.specs.declared.work.Work.{Ghosts}
use Rattle.cbs_steps.specs.declared.step.Step.{Step}
use Rattle.cbs_clients.specs.declared.house.House.{House}
use Rattle.cbs_host.specs.declared.poll.Poll.{Poll}
use Rattle.cbs_host.specs.declared.poll.Poll.TheVariants as poll
use Rattle.cbs_clients.specs.Houses.{Made, Polled, SameHouse, core_of, result_count}
use Rattle.cbs_clients.specs.Meters.{IsRunPaid}
use Rattle.cbs_clients.specs.Steps.{pops}
use Rattle.cbs_core.specs.Agreement.{Agrees}
use Rattle.cbs_steps.specs.Continuations.{IsNeeded, IsUseful}
use Rattle.cbs_core.specs.Held.{HoldsNoJob, IsAtEnd}
use Rattle.cbs_steps.specs.History.{History, world_after, reply_in}
use Rattle.cbs_steps.specs.declared.reply.Ran.{Ran}
use Rattle.cbs_steps.specs.declared.reply.Ran.TheVariants as ran
use Rattle.cbs_steps.specs.declared.reply.Reply.TheVariants as reply
use Rattle.cbs_steps.specs.declared.step.Step.TheVariants.{Run, Advance, Submit, Close, Charge}
use Rattle.cbs_clients.specs.declared.turn.Turn.{Turn}

-- how many messages a poll popped
abbrev pub popped_by : Poll → ℕ
popped_by (poll.Took q) = 1
popped_by poll.Closed = 1
popped_by poll.Nothing = 0
popped_by poll.Full = 0
popped_by poll.OutOfMemory = 0
popped_by poll.NoSuchServer = 0

-- whether a poll saw a message but was out of memory for it
abbrev pub lacks_memory : Poll → Bool
lacks_memory poll.OutOfMemory = true
lacks_memory (poll.Took q) = false
lacks_memory poll.Closed = false
lacks_memory poll.Nothing = false
lacks_memory poll.Full = false
lacks_memory poll.NoSuchServer = false

module _ {W : Type 0} where
  -- Each step takes a message of a server numbered from `first` to below `count`. The steps take at most one message of
  -- each server, in the order of their numbers. A poll that takes no message is no step.
  abbrev pub ArePolls : ℕ → ℕ → List (Step W) → Type 0
  ArePolls first count [] = Unit {0}
  ArePolls first count (Submit s job ∷ xs) = (first ≤ s) × (s < count) × ArePolls (s + 1) count xs
  ArePolls first count (Close s ∷ xs) = (first ≤ s) × (s < count) × ArePolls (s + 1) count xs
  ArePolls first count (Run ∷ xs) = ⊥
  ArePolls first count (Advance n ∷ xs) = ⊥
  ArePolls first count (Charge s n ∷ xs) = ⊥

module _ {W A : Type 0} {g : Ghosts W} where
  -- The house polled servers one after another, from server s on, one for each of these results, and the polls had
  -- these results. Nothing else changed
  abbrev pub Answered : Meaning W → ℕ → House W A g → List Poll → House W A g → Type 0
  Answered work s old [] new = SameHouse old new
  Answered work s old (p ∷ ps) new = (next : House W A g) × Polled work old s p next × Answered work (s + 1) next ps new

  -- The house polled its servers below `servers`, each once, in the order of their numbers. A poll that knows of no
  -- message may be answered by Nothing without a look at the ring. The polls took so many messages, and `out_of_memory`
  -- says whether one of them was out of memory for a message.
  pub record PollsEach (work : Meaning W) (servers : ℕ) (old new : House W A g) (took : ℕ) (out_of_memory : Bool) : Type 0 where
    pub answers : List Poll
    pub all : length answers ≡ servers
    pub answered : Answered work 0 old answers new
    pub memory : out_of_memory ≡ list_any lacks_memory answers
    pub polls : List (Step W)
    pub each : ArePolls 0 servers polls
    pub made : Made work old new polls
    pub count : pops polls ≡ took

module _ {W A : Type 0} {g : Ghosts W} where
  -- a server was ready, and the house ran one unit with this result. It paid for the unit by a meter that may return
  -- what `may` allows
  pub record RunsOne (work : Meaning W) (may : ℕ → ℕ → Type 0) (old new : House W A g) (told : Ran) : Type 0 where
    pub paid : List (Step W)
    pub pays : IsRunPaid may (core_of old).clock told paid
    pub made : Made work old new (Run ∷ paid)
    pub useful : (M : History W) → Agrees work (core_of old) M → IsUseful work (world_after work M)
    pub answer : (M : History W) → Agrees work (core_of old) M → reply.Ran told ≡ reply_in work M Run

  -- a job was held and no server was ready, and the house advanced by the idle span, n ticks
  pub record Advances (work : Meaning W) (old new : House W A g) (n : ℕ) : Type 0 where
    pub made : Made work old new (Advance n ∷ [])
    pub needed : (M : History W) → Agrees work (core_of old) M → IsNeeded work (world_after work M) n

  -- why the clock stays, by what the run returned: no job is held, or the clock is at its end with a job unfinished
  abbrev pub StaysBy : Ran → House W A g → Type 0
  StaysBy ran.Idle h = HoldsNoJob (core_of h)
  StaysBy ran.ClockEnd h = IsAtEnd (core_of h)
  StaysBy (ran.Unit s q) h = ⊥
  StaysBy (ran.Done c) h = ⊥

  -- What a turn does after its polls, by its result. It runs one unit and pays for it, or it advances by n ticks, or it
  -- does nothing
  abbrev pub GoesOn : Meaning W → (ℕ → ℕ → Type 0) → House W A g → House W A g → Ran → ℕ → Type 0
  GoesOn work may old new told n =
      (RunsOne work may old new told × (n ≡ 0)) ⊎ (Advances work old new n × (told ≡ ran.Idle)) ⊎ ((new ≡ old) × StaysBy told old × (n ≡ 0))

  -- the number of a completion is the number of results that its server had before
  abbrev pub IsNumbered : Ran → House W A g → Type 0
  IsNumbered ran.Idle h = Unit {0}
  IsNumbered ran.ClockEnd h = Unit {0}
  IsNumbered (ran.Unit s q) h = Unit {0}
  IsNumbered (ran.Done c) h = c.seq ≡ result_count h c.server

  -- the house took a turn with this result: it polled each server once, in the order of their numbers, and then went on
  pub record TakesOwnTurn (work : Meaning W) (may : ℕ → ℕ → Type 0) (old new : House W A g) (turn : Turn) : Type 0 where
    pub between : House W A g
    pub polled : PollsEach work (length (core_of old).faces) old between turn.took turn.out_of_memory
    pub goes_on : GoesOn work may between new turn.ran turn.advanced
