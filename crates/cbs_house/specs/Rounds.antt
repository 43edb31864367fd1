-- What a contract says about rounds, and about serving.
use Rattle.std.specs.Prelude.{ℕ, zero, suc, false, ◌≡◌, ◌+◌, ◌≤◌, List, ◌++◌, length, map, ◌<◌, [], ◌∷◌}
use Rattle.std.specs.List.{All, AllByRecursion}
use mathlib.Core.List.{IsPrefix}
use Rattle.cbs_rate.specs.Limits.{most_servers}
use Rattle.cbs_job.specs.Work.{Meaning}
use Rattle.cbs_job.specs.declared.work.Work.{Ghosts}
use Rattle.cbs_clients.specs.declared.error.HouseError.{HouseError}
use Rattle.cbs_clients.specs.declared.error.HouseError.TheVariants.{OutOfMemory, ClockEnd, Stalled}
use Rattle.cbs_clients.specs.declared.client.Client.{Client}
use Rattle.cbs_house.specs.declared.feed.Feed.{Feed}
use Rattle.cbs_clients.specs.declared.house.House.{House}
use Rattle.cbs_clients.specs.declared.message.Message.{Message}
use Rattle.cbs_clients.specs.Clients.{server_of, sent_by, AreOpened}
use Rattle.cbs_house.specs.Feeds.{client_of, IsDone, KeepsFeeds, SendsFeeds, all_jobs, all_unsent, servers_of}
use Rattle.cbs_clients.specs.Houses.{core_of, rings_of, received, known, results_of, early_of, left_of, Made, ServesBy}
use Rattle.cbs_core.specs.Held.{HoldsNoJob, IsAtEnd, IsClosed}
use Rattle.cbs_host.specs.Meters.{NeverCharges}
use Rattle.cbs_clients.specs.Meters.{IsRunPaid}
use Rattle.cbs_clients.specs.Steps.{pops}
use Rattle.cbs_core.specs.Agreement.{Agrees, AllAllowed, AllOnTime, AllPaced}
use Rattle.cbs_steps.specs.Continuations.{◌⊕⊕◌}
use Rattle.cbs_steps.specs.History.{History, world_after, reply_in}
use Rattle.cbs_steps.specs.Quiet.{IsQuietAfter}
use Rattle.cbs_steps.specs.declared.reply.Ran.{Ran}
use Rattle.cbs_steps.specs.declared.reply.Reply.TheVariants as reply
use Rattle.cbs_steps.specs.declared.step.Step.{Step}
use Rattle.cbs_steps.specs.declared.step.Step.TheVariants.{Run}
use Rattle.cbs_clients.specs.Turns.{ArePolls}

-- One turn of a round: the messages that its polls took, the tick when its run began, and the result of the run. Last,
-- the steps that paid for the run
pub record RoundTurn (W : Type 0) : Type 0 where
  pub polls : List (Step W)
  pub start : ℕ
  pub told : Ran
  pub paid : List (Step W)

module _ {W : Type 0} where
  -- the steps of a turn: those of its polls, then one run, then the steps that pay for the run
  abbrev pub turn_steps : RoundTurn W → List (Step W)
  turn_steps t = t.polls ++ Run ∷ t.paid

  -- the steps of several turns, one after another
  abbrev pub steps_in : List (RoundTurn W) → List (Step W)
  steps_in [] = []
  steps_in (t ∷ ts) = turn_steps t ++ steps_in ts

  -- A turn of so many servers, with a meter that may return what `may` allows. Each server was polled once, in the
  -- order of their numbers. If a unit ran then, it was paid for
  pub record IsTurn (may : ℕ → ℕ → Type 0) (servers : ℕ) (t : RoundTurn W) : Type 0 where
    pub polls : ArePolls 0 servers t.polls
    pub pays : IsRunPaid may t.start t.told t.paid

  -- the run of a turn that was taken after M began at that tick, and its result is the one of the rules
  pub record RunsAfter (work : Meaning W) (M : History W) (t : RoundTurn W) : Type 0 where
    pub start : t.start ≡ (world_after work (M ⊕⊕ t.polls)).now
    pub answer : reply.Ran t.told ≡ reply_in work (M ⊕⊕ t.polls) Run

  -- the runs of turns that were taken one after another began so and have such results
  abbrev pub EachRuns : Meaning W → History W → List (RoundTurn W) → Type 0
  EachRuns work M [] = Unit {0}
  EachRuns work M (t ∷ ts) = RunsAfter work M t × EachRuns work (M ⊕⊕ turn_steps t) ts

module _ {W A : Type 0} {g : Ghosts W} where
  -- the house took one turn, with a meter that may return what `may` allows; the turn took n messages
  pub record TakesTurn (work : Meaning W) (may : ℕ → ℕ → Type 0) (old new : House W A g) (n : ℕ) : Type 0 where
    pub turn : RoundTurn W
    pub is : IsTurn may (length (core_of old).faces) turn
    pub runs : (M : History W) → Agrees work (core_of old) M → RunsAfter work M turn
    pub made : Made work old new (turn_steps turn)
    pub count : pops turn.polls ≡ n

  -- the house took exactly this many turns, one after another, which took n messages
  pub record TakesExactly (work : Meaning W) (may : ℕ → ℕ → Type 0) (exactly : ℕ) (old new : House W A g) (n : ℕ) : Type 0 where
    pub turns : List (RoundTurn W)
    pub each : AllByRecursion (IsTurn may (length (core_of old).faces)) turns
    pub runs : (M : History W) → Agrees work (core_of old) M → EachRuns work M turns
    pub made : Made work old new (steps_in turns)
    pub number : length turns ≡ exactly
    pub count : pops (steps_in turns) ≡ n

  -- The house took at most so many turns, which took n messages. The turns are fewer only if all these servers are
  -- closed. The steps of the turns make no advance. So if the meter never charges, no step takes anybody's time, and
  -- from a house that is on time each step leaves all on time.
  pub record TakesTurns (work : Meaning W) (may : ℕ → ℕ → Type 0) (most : ℕ) (servers : List ℕ) (old new : House W A g) (n : ℕ) : Type 0 where
    pub turns : ℕ
    pub within : turns ≤ most
    pub fewer : turns < most → All (IsClosed (core_of new)) servers
    pub taken : TakesExactly work may turns old new n
    pub quiet : NeverCharges may → AllAllowed work (IsQuietAfter work) (core_of old) (steps_in taken.turns)
    pub on_time : NeverCharges may → AllOnTime work (core_of old) (steps_in taken.turns)
    pub paced : AllPaced work (core_of old) (steps_in taken.turns)

module _ {W A : Type 0} {g : Ghosts W} where
  -- the house may serve these feeds: they are at most 64, each with a client that was opened with the house
  pub record Ready (h : House W A g) (fs : List (Feed W A g)) : Type 0 where
    pub few : length fs ≤ most_servers
    pub opened : AreOpened (rings_of h) (map client_of fs)

  -- n messages of the client stand in its ring, after those that were received, and the house has seen them
  pub record Standing (h : House W A g) (c : Client W A g) (n : ℕ) : Type 0 where
    pub rest : List (Message W)
    pub sent : sent_by c ≡ received h (server_of c) ++ rest
    pub seen : IsPrefix rest (known h (server_of c))
    pub count : length rest ≡ n

  -- all that the feed's client sent was received for its server, and perhaps more
  abbrev pub IsTaken : House W A g → Feed W A g → Type 0
  IsTaken h f = IsPrefix (sent_by f.client) (received h (server_of f.client))

  -- what was received for the server are the first messages that the feed's client sent, or all of them
  abbrev pub ReceivesFirst : House W A g → Feed W A g → Type 0
  ReceivesFirst h f = IsPrefix (received h (server_of f.client)) (sent_by f.client)

  -- what was received for the server is exactly what the feed's client sent
  abbrev pub IsSettled : House W A g → Feed W A g → Type 0
  IsSettled h f = received h (server_of f.client) ≡ sent_by f.client

  -- The feed is done. The results of its server, if none of its jobs ended early, are the whole results of all its jobs,
  -- in order, except the first ones, which were handed out
  pub record IsServed (work : Meaning W) (h : House W A g) (f : Feed W A g) : Type 0 where
    pub done : IsDone f
    pub results : early_of h (server_of f.client) ≡ false → results_of h (server_of f.client) ≡ left_of work h (server_of f.client) (all_jobs f)

  -- What an error of an unfinished round says of the house. ClockEnd says that the clock is at its end with a job
  -- unfinished. OutOfMemory says nothing of the house
  abbrev pub Halts : HouseError → House W A g → Type 0
  Halts OutOfMemory h = Unit {0}
  Halts ClockEnd h = IsAtEnd (core_of h)
  Halts Stalled h = ⊥
  Halts _ h = ⊥

  -- not every feed is done, although every job received is finished and all that was sent was received
  pub record IsStalled (h : House W A g) (fs : List (Feed W A g)) : Type 0 where
    pub drained : HoldsNoJob (core_of h)
    pub settled : All (IsSettled h) fs
    pub undone : ¬ All IsDone fs

-- how many turns each side of a round of serving is given
abbrev pub turns_in_round : ℕ
turns_in_round = 10000

module _ {W A : Type 0} {g : Ghosts W} (work : Meaning W) (may : ℕ → ℕ → Type 0) where
  -- The house and the feeds made a round of serving: turns of both sides, which left `house` and `feeds`, and then the
  -- steps that finish a round. All that was sent was received and is finished, but not every feed is done
  pub record MakesRound (old : House W A g) (fs : List (Feed W A g)) (new : House W A g) (fs' : List (Feed W A g)) : Type 0 where
    pub house : House W A g
    pub feeds : List (Feed W A g)
    pub took : ℕ
    pub turns : TakesTurns work may turns_in_round (servers_of fs) old house took
    pub sends : SendsFeeds turns_in_round fs feeds
    pub finish : ServesBy work may house new
    pub kept : KeepsFeeds feeds fs'
    pub stalled : IsStalled new fs'

  -- the house and the feeds made so many such rounds, one after another
  abbrev pub MakesRounds : ℕ → House W A g → List (Feed W A g) → House W A g → List (Feed W A g) → Type 0
  MakesRounds zero old fs new fs' = (new ≡ old) × (fs' ≡ fs)
  MakesRounds (suc n) old fs new fs' =
      (h : House W A g) × (gs : List (Feed W A g)) × MakesRounds n old fs h gs × MakesRound h gs new fs'

  -- What the error of a refused serve says. ClockEnd says that the clock is at its end with a job unfinished. Stalled
  -- comes only after one round more than the feeds had messages to send. OutOfMemory says nothing
  abbrev pub Stops : House W A g → List (Feed W A g) → House W A g → List (Feed W A g) → HouseError → Type 0
  Stops old fs new fs' OutOfMemory = Unit {0}
  Stops old fs new fs' ClockEnd = IsAtEnd (core_of new)
  Stops old fs new fs' Stalled = IsStalled new fs' × MakesRounds (all_unsent fs + 1) old fs new fs'
  Stops old fs new fs' _ = ⊥
