-- What a contract says about a house.
use Rattle.std.specs.Prelude.{ℕ, ◌≡◌, ◌≢◌, ◌⊎◌, ◌+◌, ◌≤◌, ◌<◌, Bool, true, false, Result, Ok, Err, List, [], ◌∷◌, ◌++◌, drop, length, map, slice_get, Option, Some, None}
use mathlib.Core.List.{IsPrefix}
use Rattle.cbs_job.specs.Work.{Meaning, whole}
use Rattle.cbs_job.specs.declared.work.Work.{Ghosts}
use Rattle.cbs_steps.specs.Faces.{face_at, backlog_of}
use Rattle.cbs_core.specs.Held.{CoreHeld, held_at, IsOpen, Accepts, HasRoom, IsCoreOnTime, IsCorePaced}
use Rattle.cbs_steps.specs.History.{History}
use Rattle.cbs_steps.specs.OnTime.{KeepsTime}
use Rattle.cbs_steps.specs.Paced.{KeepsPace}
use Rattle.cbs_steps.specs.Quiet.{IsQuietAfter, IsQuietAdvanceAfter}
use Rattle.cbs_steps.specs.declared.error.CoreError.{CoreError}
use Rattle.cbs_steps.specs.declared.reply.Ran.{Ran}
use Rattle.cbs_steps.specs.declared.reply.Ran.TheVariants as ran
use Rattle.cbs_steps.specs.declared.step.Step.{Step}
use Rattle.cbs_steps.specs.declared.step.Step.TheVariants as step
use Rattle.cbs_clients.specs.declared.error.HouseError.{HouseError}
use Rattle.cbs_clients.specs.declared.error.HouseError.TheVariants as house_error
use Rattle.cbs_clients.specs.declared.house.House.{House}
use Rattle.cbs_clients.specs.declared.message.Message.{Message}
use Rattle.cbs_host.specs.declared.poll.Poll.{Poll}
use Rattle.cbs_host.specs.declared.poll.Poll.TheVariants.{Nothing, Took, Closed, Full, OutOfMemory, NoSuchServer}
use Rattle.cbs_results.specs.Collected.{shelf_at}
use Rattle.cbs_clients.specs.HouseInvariant.{KeepsServer}
use Rattle.cbs_clients.specs.Messages.{jobs_among}
use Rattle.cbs_clients.specs.Meters.{AreMoves, all_steps}
use Rattle.cbs_clients.specs.Rings.{rings_in, received_in, known_in, Ring}
use Rattle.cbs_clients.specs.Steps.{messages_of, pops, MayServe}
use Rattle.cbs_core.specs.Agreement.{Agrees, Follows, AllAllowed, AllOnTime, AllPaced}
use Rattle.cbs_tape.specs.Tapes.{Taped, HandsOut}
use Rattle.cbs_recorded.specs.Records.{tape_in, Recorded}

-- What a house has of one server. First the messages received and the messages that it knows to wait in the ring, each
-- oldest first. Then how many results were handed out, and the results that are kept, in order. Last, whether one of
-- these results, handed out or kept, is that of a job that ended early.
pub record Seat (W : Type 0) : Type 0 where
  pub received : List (Message W)
  pub known : List (Message W)
  pub handed : ℕ
  pub results : List ℕ
  pub early : Bool

module _ {W : Type 0} where
  -- what a new house has of a server
  abbrev pub new_seat : Seat W
  new_seat = record { received = []; known = []; handed = 0; results = []; early = false }

  -- these messages were taken: the messages known to wait before are a prefix of them followed by those known to wait
  -- now
  pub record TakesMessages (ms : List (Message W)) (old new : Seat W) : Type 0 where
    pub received : new.received ≡ old.received ++ ms
    pub known : IsPrefix old.known (ms ++ new.known)
    pub handed : new.handed ≡ old.handed
    pub early : new.early ≡ old.early

  -- more messages may be known to wait in the ring, and nothing else changed
  pub record SeesMore (old new : Seat W) : Type 0 where
    pub same : new ≡ record old { known = new.known }
    pub known : IsPrefix old.known new.known

module _ {W A : Type 0} {g : Ghosts W} where
  -- what the house's core holds
  abbrev pub core_of : House W A g → CoreHeld W
  core_of h = h.core

  -- the tape that the house's steps are told to, if there is one
  abbrev pub tape_of : House W A g → Option Taped
  tape_of h = tape_in h.tape

  -- the house is on time: its core is on time
  abbrev pub IsHouseOnTime : House W A g → Type 0
  IsHouseOnTime h = IsCoreOnTime (core_of h)

  -- the house is paced: its core is
  abbrev pub IsHousePaced : House W A g → Type 0
  IsHousePaced h = IsCorePaced (core_of h)

  -- the ring that was opened for each server
  abbrev pub rings_of : House W A g → List (Ring A)
  rings_of h = rings_in h.rings

  -- what a house has of server s
  abbrev pub seat_at : House W A g → ℕ → Seat W
  seat_at h s = record {
    received = received_in h.rings s;
    known = known_in h.rings s;
    handed = (shelf_at h.collector s).handed;
    results = (shelf_at h.collector s).results;
    early = (shelf_at h.collector s).early;
  }

  -- the messages received for server s, oldest first
  abbrev pub received : House W A g → ℕ → List (Message W)
  received h s = (seat_at h s).received

  -- the messages that the house knows to wait in the ring of server s, oldest first
  abbrev pub known : House W A g → ℕ → List (Message W)
  known h s = (seat_at h s).known

  -- how many results of server s were handed out
  abbrev pub handed_of : House W A g → ℕ → ℕ
  handed_of h s = (seat_at h s).handed

  -- the results of server s that are kept, in order
  abbrev pub results_of : House W A g → ℕ → List ℕ
  results_of h s = (seat_at h s).results

  -- whether a job of server s ended early, so that its result is not the whole result of the job
  abbrev pub early_of : House W A g → ℕ → Bool
  early_of h s = (seat_at h s).early

  -- what is left of the whole results of these jobs of server s: all but the first ones, which were handed out
  abbrev pub left_of : Meaning W → House W A g → ℕ → List W → List ℕ
  left_of work h s jobs = drop (handed_of h s) (map (whole work) jobs)

  -- the whole results of the jobs received for server s, but for those that were handed out
  abbrev pub results_due : Meaning W → House W A g → ℕ → List ℕ
  results_due work h s = left_of work h s (jobs_among (received h s))

  -- this is what the house keeps of server s, with these results
  abbrev pub KeepsOf : Meaning W → House W A g → ℕ → List ℕ → Type 0
  KeepsOf work h s results = KeepsServer work (held_at (core_of h) s) (received h s) (handed_of h s) (early_of h s) results

  -- how many results of server s were found: those handed out, and those kept
  abbrev pub result_count : House W A g → ℕ → ℕ
  result_count h s = handed_of h s + length (results_of h s)

  -- the results of every server are as before
  abbrev pub KeepsResults : House W A g → House W A g → Type 0
  KeepsResults old new = (s : ℕ) → results_of new s ≡ results_of old s

  -- The house made these steps. Each history that its core agreed with, followed by the steps, is one that its core
  -- agrees with now. The rings are the same, each server's messages among the steps were taken, and no result was
  -- handed out. If all was on time, each step that takes nobody's time keeps all on time. If all was paced, each step
  -- that advances quietly keeps all paced. The tape, if there is one, was told steps that lead from the old core to the
  -- new one.
  pub record Made (work : Meaning W) (old new : House W A g) (xs : List (Step W)) : Type 0 where
    pub steps : Follows work (core_of old) (core_of new) xs
    pub keeps_time : AllAllowed work (KeepsTime work) (core_of old) xs
    pub keeps_pace : AllAllowed work (KeepsPace work) (core_of old) xs
    pub rings : rings_of new ≡ rings_of old
    pub recorded : Recorded work (core_of old) (core_of new) (tape_of old) (tape_of new)
    pub seats : (s : ℕ) → TakesMessages (messages_of s xs) (seat_at old s) (seat_at new s)

  -- the house looked at its rings, and did nothing else
  pub record LooksOnly (old new : House W A g) : Type 0 where
    pub core : core_of new ≡ core_of old
    pub rings : rings_of new ≡ rings_of old
    pub tape : tape_of new ≡ tape_of old
    pub seats : (s : ℕ) → SeesMore (seat_at old s) (seat_at new s)

  -- nothing of the house changed
  pub record SameHouse (old new : House W A g) : Type 0 where
    pub core : core_of new ≡ core_of old
    pub rings : rings_of new ≡ rings_of old
    pub tape : tape_of new ≡ tape_of old
    pub seats : (s : ℕ) → seat_at new s ≡ seat_at old s

  -- the results of server s were handed out: none of them is kept, and all are counted; nothing else changed
  pub record HandsOutResults (s : ℕ) (old new : House W A g) : Type 0 where
    pub core : core_of new ≡ core_of old
    pub rings : rings_of new ≡ rings_of old
    pub tape : tape_of new ≡ tape_of old
    pub seat : seat_at new s ≡ record (seat_at old s) { results = []; handed = result_count old s }
    pub others : (t : ℕ) → t ≢ s → seat_at new t ≡ seat_at old t

  -- the tape handed out what it had: n bytes at the start of a buffer; nothing else changed
  pub record TakesTape (n : ℕ) (old new : House W A g) (before after : List ℕ) : Type 0 where
    pub had : Taped
    pub has : Taped
    pub old_tape : tape_of old ≡ Some had
    pub new_tape : tape_of new ≡ Some has
    pub handed : HandsOut n had has before after
    pub core : core_of new ≡ core_of old
    pub rings : rings_of new ≡ rings_of old
    pub seats : (s : ℕ) → seat_at new s ≡ seat_at old s

  -- why the results of server s are not handed out: there is no such server, or memory was refused
  abbrev pub KeepsBack : House W A g → ℕ → HouseError → Type 0
  KeepsBack h s e = ((e ≡ house_error.NoSuchServer) × (length (core_of h).faces ≤ s))
      ⊎ ((e ≡ house_error.OutOfMemory) × (s < length (core_of h).faces))

-- whether the tape is whole, if there is one
abbrev pub whole_in : Option Taped → Option Bool
whole_in None = None
whole_in (Some tape) = Some tape.whole

-- a buffer of n bytes is too short for a tape, or there is no tape
abbrev pub IsTooShort : Option Taped → ℕ → Type 0
IsTooShort None n = Unit {0}
IsTooShort (Some tape) n = n < tape.size

-- the result of a read of a server, by the core's result, which refuses only if there is no such server
abbrev pub told_answer : {T : Type 0} → Result T CoreError → Result T HouseError
told_answer (Ok told) = Ok told
told_answer (Err e) = Err house_error.NoSuchServer

module _ {W A : Type 0} {g : Ghosts W} where
  -- Every job received is finished. The results of each server, if none of its jobs ended early, are the whole results of
  -- those jobs, in order, except the first ones, which were handed out
  abbrev pub AllFinished : Meaning W → House W A g → Type 0
  AllFinished work h = (s : ℕ) → s < length (core_of h).faces → early_of h s ≡ false → results_of h s ≡ results_due work h s

module _ {W A : Type 0} {g : Ghosts W} where
  -- The house made some steps, each of which is allowed at its place, and the steps took n messages. No advance among
  -- them took anybody's time. So from a house that is on time each step leaves all on time, and from a paced one all
  -- paced.
  pub record Moves (work : Meaning W) (allowed : History W → Step W → Type 0) (old new : House W A g) (n : ℕ) : Type 0 where
    pub steps : List (Step W)
    pub made : Made work old new steps
    pub each : AllAllowed work allowed (core_of old) steps
    pub quiet : AllAllowed work (IsQuietAfter work) (core_of old) steps
    pub on_time : AllOnTime work (core_of old) steps
    pub paced : AllPaced work (core_of old) steps
    pub count : pops steps ≡ n

  -- The house made some steps, each allowed at its place, with a meter that may return what `may` allows. Right after
  -- each unit it was charged what the meter returned for it, and nothing else was charged. Each advance among the steps
  -- is quiet. The steps took n messages.
  pub record MovesBy (work : Meaning W) (may : ℕ → ℕ → Type 0) (allowed : History W → Step W → Type 0) (old new : House W A g) (n : ℕ) : Type 0 where
    pub moves : List (List (Step W))
    pub made : Made work old new (all_steps moves)
    pub each : (M : History W) → Agrees work (core_of old) M → AreMoves work may allowed M moves
    pub quiet : AllAllowed work (IsQuietAdvanceAfter work) (core_of old) (all_steps moves)
    pub count : pops (all_steps moves) ≡ n

  -- the house made some steps of serving
  pub record ServesOn (work : Meaning W) (old new : House W A g) : Type 0 where
    pub moves : (n : ℕ) × Moves work (MayServe work) old new n

  -- the house made some steps of serving, with a meter
  pub record ServesBy (work : Meaning W) (may : ℕ → ℕ → Type 0) (old new : House W A g) : Type 0 where
    pub moves : (n : ℕ) × MovesBy work may (MayServe work) old new n

  -- What a poll of server s did, by its result. The first four pop nothing. Nothing: no message is seen or the server
  -- is closed. Full: a message is seen, and the backlog is full. OutOfMemory: a message is seen, the backlog is not
  -- full, and memory is refused. NoSuchServer: there is no such server. Otherwise the next message is popped. A job is
  -- accepted, with the number that it has among the jobs received, and an end closes the server.
  abbrev pub Polled : Meaning W → House W A g → ℕ → Poll → House W A g → Type 0
  Polled work old s Nothing new = Made work old new [] × (s < length (core_of old).faces)
      × (((face_at (core_of old).faces s).closed ≡ true) ⊎ (known new s ≡ []))
  Polled work old s Full new =
      Made work old new [] × IsOpen (core_of old) s × (0 < length (known new s)) × ((core_of old).backlog ≤ backlog_of (face_at (core_of old).faces s))
  Polled work old s OutOfMemory new = Made work old new [] × Accepts (core_of old) s × (0 < length (known new s))
  Polled work old s NoSuchServer new = Made work old new [] × (length (core_of old).faces ≤ s)
  Polled work old s (Took q) new = (job : W) × Made work old new (step.Submit s job ∷ []) × Accepts (core_of old) s × (q ≡ length (jobs_among (received old s)))
  Polled work old s Closed new = Made work old new (step.Close s ∷ []) × Accepts (core_of old) s

  -- the next message of server s is seen, and there is room for it and for a result
  pub record CanTake (h : House W A g) (s : ℕ) : Type 0 where
    pub room : HasRoom (core_of h) s
    pub spare : 0 < (shelf_at h.collector s).spare
    pub next : 0 < length (known h s)

  -- what a run did to the results, by its result: a completion is put after the results of its server
  abbrev pub Collects : Ran → House W A g → House W A g → Type 0
  Collects ran.Idle old new = KeepsResults old new
  Collects ran.ClockEnd old new = KeepsResults old new
  Collects (ran.Unit t q) old new = KeepsResults old new
  Collects (ran.Done c) old new = (results_of new c.server ≡ results_of old c.server ++ c.result ∷ [])
      × ((s : ℕ) → s ≢ c.server → results_of new s ≡ results_of old s)

  -- job number q among those received for server s has this whole result
  pub record ComesTo (work : Meaning W) (h : House W A g) (s q result : ℕ) : Type 0 where
    pub told : slice_get (map (whole work) (jobs_among (received h s))) q ≡ Some result

  -- The number in a run's result is the number of the job among those received. If the job got a unit and is not done,
  -- it is the first that its server holds, with the same whole result. A completion gives the job's whole result.
  abbrev pub NamesJob : Meaning W → Ran → House W A g → Type 0
  NamesJob work ran.Idle h = Unit {0}
  NamesJob work ran.ClockEnd h = Unit {0}
  NamesJob work (ran.Unit s q) h = (job : W) × (rest : List W) × ((held_at (core_of h) s).jobs ≡ job ∷ rest) × ComesTo work h s q (whole work job)
  NamesJob work (ran.Done c) h = ComesTo work h c.server c.seq c.result
