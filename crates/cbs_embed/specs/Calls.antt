-- What a call on a handle does to what the handle holds: the effect of the call on the house or client, or a refusal.
use Rattle.std.specs.Prelude.{ℕ, slice_get, ◌≡◌, ◌↔◌, IsTrue, ◌+◌, ◌<◌, ◌≤◌, Bool, true, not, List, [], Option, Some, None, Result, Ok, Err, length, map}
use Rattle.std.specs.Global.{Global}
use Rattle.cbs_core.specs.Agreement.{Agrees}
use Rattle.cbs_job.specs.declared.completion.Completion.{Completion}
use Rattle.cbs_steps.specs.History.{History}
use Rattle.cbs_steps.specs.declared.charges.Charges as charges
use Rattle.cbs_steps.specs.declared.view.ServerView.{ServerView}
use Rattle.cbs_steps.specs.declared.reply.Ran.{Ran}
use Rattle.cbs_steps.specs.declared.reply.Ran.TheVariants as ran
use Rattle.cbs_clients.specs.Calls.{PollOf, RunOf, TurnOf, AdvanceOf, ChargeOf, FinishOf, ChargesOf, ClockOf, SpanOf, ViewOf, PromiseOf, LooksAtRing, SendOf, EndOf}
use Rattle.cbs_clients.specs.Clients.{free, slots_of}
use Rattle.cbs_tape.specs.Tapes.{Taped}
use Rattle.cbs_clients.specs.Houses.{core_of, rings_of, seat_at, tape_of, SameHouse, TakesTape, IsTooShort, whole_in, IsHouseOnTime, IsHousePaced, received, HandsOutResults}
use Rattle.cbs_clients.specs.Messages.{jobs_among}
use Rattle.cbs_clients.specs.UntilClosed.{IsOver}
use Rattle.cbs_clients.specs.declared.client.Client as client
use Rattle.cbs_clients.specs.declared.error.HouseError.TheVariants.{NoSuchServer, OutOfMemory}
use Rattle.cbs_clients.specs.declared.house.House as house
use Rattle.cbs_host.specs.declared.poll.Poll.{Poll}
use Rattle.cbs_job.specs.Tasks.{task_refusal}
use Rattle.cbs_embed.specs.Jobs.{counting}
use Rattle.cbs_embed.specs.contracts.job.UnitJobWork.TheImpl.{ghosts}
use Rattle.cbs_embed.specs.declared.held.Held.{Held}
use Rattle.cbs_embed.specs.declared.held.Held.TheVariants.{House, Client}
use Rattle.cbs_embed.specs.declared.job.UnitJob.{UnitJob}
use Rattle.cbs_embed.specs.declared.refusal.HandleError.TheVariants.{NotOpen, OtherKind, HouseGone, NoTape}
use Rattle.cbs_embed.specs.declared.refusal.Refusal.{Refusal}
use Rattle.cbs_embed.specs.declared.refusal.Refusal.TheVariants as refused
use Rattle.cbs_embed.specs.declared.told.Turn.{Turn}
use Rattle.cbs_embed.specs.declared.told.Unit as unit

abbrev pub TheHouse : Type 0
TheHouse = house.House UnitJob Global ghosts

abbrev pub TheClient : Type 0
TheClient = client.Client UnitJob Global ghosts

-- why a call on a house is refused by a handle that holds this: it is not open, or holds a client
abbrev pub RefusesHouse : Option Held → Refusal → Type 0
RefusesHouse None e = e ≡ refused.Handle NotOpen
RefusesHouse (Some (House h)) e = ⊥
RefusesHouse (Some (Client c)) e = e ≡ refused.Handle OtherKind

-- why a call on a client is refused by a handle that holds this: it is not open, or holds a house
abbrev pub RefusesClient : Option Held → Refusal → Type 0
RefusesClient None e = e ≡ refused.Handle NotOpen
RefusesClient (Some (House h)) e = e ≡ refused.Handle OtherKind
RefusesClient (Some (Client c)) e = ⊥

-- a call on a house did this to the house inside, which stays inside. A client is refused by OtherKind, and unchanged
abbrev pub InHouse : {T : Type 0} → (TheHouse → Result T Refusal → TheHouse → Type 0) → Held → Result T Refusal → Held → Type 0
InHouse Does (House h) answer new = (after : TheHouse) × (new ≡ House after) × Does h answer after
InHouse Does (Client c) answer new = (answer ≡ Err (refused.Handle OtherKind)) × (new ≡ Client c)

-- a call on a client did this to the client inside, which stays inside. A house is refused by OtherKind, and unchanged
abbrev pub InClient : {T : Type 0} → (TheClient → Result T Refusal → TheClient → Type 0) → Held → Result T Refusal → Held → Type 0
InClient Does (House h) answer new = (answer ≡ Err (refused.Handle OtherKind)) × (new ≡ House h)
InClient Does (Client c) answer new = (after : TheClient) × (new ≡ Client after) × Does c answer after

-- a call did this to what the handle held, and the handle holds the outcome. A handle that is not open is refused by
-- NotOpen, and stays so
abbrev pub OnHeld : {T : Type 0} → (Held → Result T Refusal → Held → Type 0) → Option Held → Result T Refusal → Option Held → Type 0
OnHeld Does None answer new = (answer ≡ Err (refused.Handle NotOpen)) × (new ≡ None)
OnHeld Does (Some held) answer new = (after : Held) × (new ≡ Some after) × Does held answer after

-- a call on a handle does this to the house in it
abbrev pub OnHouse : {T : Type 0} → (TheHouse → Result T Refusal → TheHouse → Type 0) → Option Held → Result T Refusal → Option Held → Type 0
OnHouse Does = OnHeld (InHouse Does)

-- job number q among those received for server s has this token
abbrev pub HasToken : TheHouse → ℕ → ℕ → ℕ → Type 0
HasToken h s q token = slice_get (map (λ job. job.token) (jobs_among (received h s))) q ≡ Some token

-- the token is that of the job in the result of the run, and 0 if no job got a unit
abbrev pub NamesToken : Ran → ℕ → TheHouse → Type 0
NamesToken ran.Idle token h = token ≡ 0
NamesToken ran.ClockEnd token h = token ≡ 0
NamesToken (ran.Unit s q) token h = HasToken h s q token
NamesToken (ran.Done c) token h = HasToken h c.server c.seq token

-- the result of a finished job is dropped, as if it were handed out; if no job was finished, nothing happens
abbrev pub Drops : Ran → TheHouse → TheHouse → Type 0
Drops ran.Idle old new = new ≡ old
Drops ran.ClockEnd old new = new ≡ old
Drops (ran.Unit s q) old new = new ≡ old
Drops (ran.Done c) old new = HandsOutResults c.server old new

-- the house ran with this result and this token, and then the result of a finished job was dropped
pub record RunsAndDrops (old : TheHouse) (told : Ran) (token : ℕ) (new : TheHouse) : Type 0 where
  pub between : TheHouse
  pub run : RunOf counting old told between
  pub named : NamesToken told token between
  pub drops : Drops told between new
  pub on_time : IsHouseOnTime old → IsHouseOnTime new
  pub paced : IsHousePaced old → IsHousePaced new

abbrev pub Runs : TheHouse → Result unit.Unit Refusal → TheHouse → Type 0
Runs old (Ok told) new = RunsAndDrops old told.ran told.token new
Runs old (Err e) new = ⊥

-- The house took a turn, with this result: what ran, its token, and whether all is over after the turn. Then the result
-- of a finished job was dropped.
pub record TurnsAndDrops (old : TheHouse) (told : Turn) (new : TheHouse) : Type 0 where
  pub between : TheHouse
  pub turn : TurnOf counting old told.turn between
  pub named : NamesToken told.turn.ran told.token between
  pub drops : Drops told.turn.ran between new
  pub over : IsTrue told.over ↔ IsOver (core_of new)
  pub on_time : IsHouseOnTime old → IsHouseOnTime new
  pub paced : IsHousePaced old → IsHousePaced new

abbrev pub Turns : TheHouse → Result Turn Refusal → TheHouse → Type 0
Turns old (Ok told) new = TurnsAndDrops old told new
Turns old (Err e) new = ⊥

-- the house has a server s
abbrev pub HasServer : ℕ → TheHouse → Type 0
HasServer s h = s < length (core_of h).faces

-- a call is refused because the house has no server s, and nothing changed
abbrev pub RefusesServer : ℕ → TheHouse → Refusal → TheHouse → Type 0
RefusesServer s old e new = (e ≡ refused.House NoSuchServer) × (length (core_of old).faces ≤ s) × (new ≡ old)

-- a poll of a server that is there
abbrev pub Polls : ℕ → TheHouse → Result Poll Refusal → TheHouse → Type 0
Polls s old (Ok answer) new = HasServer s old × PollOf counting s old answer new
Polls s old (Err e) new = RefusesServer s old e new

abbrev pub Advances : ℕ → TheHouse → Result (Unit {0}) Refusal → TheHouse → Type 0
Advances n old (Ok x) new = AdvanceOf counting n old (Ok x) new
Advances n old (Err (refused.House e)) new = AdvanceOf counting n old (Err e) new
Advances n old (Err _) new = ⊥

abbrev pub ChargesServer : ℕ → ℕ → TheHouse → Result (Unit {0}) Refusal → TheHouse → Type 0
ChargesServer s n old (Ok x) new = ChargeOf counting s n old (Ok x) new
ChargesServer s n old (Err (refused.House e)) new = ChargeOf counting s n old (Err e) new
ChargesServer s n old (Err _) new = ⊥

-- The job of server s that got the last unit ended early in the house, and then its result was dropped
pub record FinishesAndDrops (s : ℕ) (old new : TheHouse) : Type 0 where
  pub done : Completion
  pub between : TheHouse
  pub finish : FinishOf counting s old (Ok done) between
  pub drops : HandsOutResults s between new
  pub on_time : IsHouseOnTime old → IsHouseOnTime new
  pub paced : IsHousePaced old → IsHousePaced new

-- a job of server s ended early, or the house refused it, and is the same
abbrev pub Finishes : ℕ → TheHouse → Result (Unit {0}) Refusal → TheHouse → Type 0
Finishes s old (Ok x) new = FinishesAndDrops s old new
Finishes s old (Err (refused.House e)) new = FinishOf counting s old (Err e) new
Finishes s old (Err _) new = ⊥

-- a tape with no step, in a memory of this many bytes and 31 more
abbrev pub empty_tape : ℕ → Taped
empty_tape bytes = record { steps = []; whole = true; room = bytes + 31; size = bytes + 31 }

-- nothing of the house changed but its tape
pub record ChangesTape (old new : TheHouse) : Type 0 where
  pub core : core_of new ≡ core_of old
  pub rings : rings_of new ≡ rings_of old
  pub seats : (s : ℕ) → seat_at new s ≡ seat_at old s

-- the house has a new tape, and nothing else of it changed; or there is no memory for one, and the house is the same
abbrev pub OpensTape : ℕ → TheHouse → Result (Unit {0}) Refusal → TheHouse → Type 0
OpensTape bytes old (Ok x) new = (tape_of new ≡ Some (empty_tape bytes)) × ChangesTape old new
OpensTape bytes old (Err e) new = (e ≡ refused.House OutOfMemory) × (new ≡ old)

-- the tape handed out what it had, so many bytes; or the house has no tape for a place of this length, and nothing changed
abbrev pub HandsOutTape : List ℕ → List ℕ → TheHouse → Result ℕ Refusal → TheHouse → Type 0
HandsOutTape before after old (Ok n) new = TakesTape n old new before after
HandsOutTape before after old (Err e) new =
    (e ≡ refused.Handle NoTape) × IsTooShort (tape_of old) (length before) × SameHouse old new × (after ≡ before)

-- the result is whether the tape lost a step, or that the house has no tape; the house is the same
abbrev pub TellsLost : TheHouse → Result Bool Refusal → TheHouse → Type 0
TellsLost old (Ok lost) new = (whole_in (tape_of old) ≡ Some (not lost)) × (new ≡ old)
TellsLost old (Err e) new = (e ≡ refused.Handle NoTape) × (tape_of old ≡ None) × (new ≡ old)

-- the house had a tape, and has none; or it had none, and is the same
abbrev pub ClosesTape : TheHouse → Result (Unit {0}) Refusal → TheHouse → Type 0
ClosesTape old (Ok x) new = (tape : Taped) × (tape_of old ≡ Some tape) × (tape_of new ≡ None) × ChangesTape old new
ClosesTape old (Err e) new = (e ≡ refused.Handle NoTape) × (tape_of old ≡ None) × (tape_of new ≡ None) × ChangesTape old new

-- the result is what server s was charged, or that the house has no such server; the house is the same
abbrev pub ShowsCharges : ℕ → TheHouse → Result charges.Charges Refusal → TheHouse → Type 0
ShowsCharges s old (Ok told) new = (new ≡ old) × ChargesOf counting s old (Ok told)
ShowsCharges s old (Err (refused.House e)) new = (new ≡ old) × ChargesOf counting s old (Err e)
ShowsCharges s old (Err _) new = ⊥

-- the result is the clock, and the house is the same
abbrev pub TellsClock : TheHouse → Result ℕ Refusal → TheHouse → Type 0
TellsClock old (Ok now) new = (new ≡ old) × ClockOf counting old now
TellsClock old (Err e) new = ⊥

-- the result is the idle span, and the house is the same
abbrev pub Spans : TheHouse → Result (Option ℕ) Refusal → TheHouse → Type 0
Spans old (Ok span) new = (new ≡ old) × SpanOf counting old span
Spans old (Err e) new = ⊥

-- the result is what server s shows, or that the house has no such server; the house is the same
abbrev pub Shows : ℕ → TheHouse → Result ServerView Refusal → TheHouse → Type 0
Shows s old (Ok view) new = (new ≡ old) × ViewOf counting s old (Ok view)
Shows s old (Err (refused.House e)) new = (new ≡ old) × ViewOf counting s old (Err e)
Shows s old (Err _) new = ⊥

-- the result is the promise of a server that is there, and the house is the same
abbrev pub Promises : ℕ → TheHouse → Result (Option ℕ) Refusal → TheHouse → Type 0
Promises s old (Ok tick) new = HasServer s old × (new ≡ old) × PromiseOf counting s old tick
Promises s old (Err e) new = RefusesServer s old e new

-- it holds of each history that the house in the handle agrees with
abbrev pub HoldsInside : Option Held → (History UnitJob → Type 0) → Type 0
HoldsInside held says = (h : TheHouse) → held ≡ Some (House h) → (M : History UnitJob) → Agrees counting (core_of h) M → says M

-- the result is how many slots of its ring the client does not know to be free
abbrev pub Waits : TheClient → Result ℕ Refusal → TheClient → Type 0
Waits old (Ok n) new = LooksAtRing old new × (n + free new ≡ slots_of new)
Waits old (Err e) new = ⊥

-- an end is sent or refused as the client does; or, at any time, it is refused because the house is gone
abbrev pub Ends : TheClient → Result (Unit {0}) Refusal → TheClient → Type 0
Ends old (Ok x) new = EndOf old (Ok x) new
Ends old (Err (refused.Send e)) new = EndOf old (Err e) new
Ends old (Err (refused.Handle e)) new = (e ≡ HouseGone) × LooksAtRing old new
Ends old (Err _) new = ⊥

-- a job of so many units
abbrev pub job_of : ℕ → ℕ → UnitJob
job_of token units = record { token = token; units = units }

-- A job is refused by its units, and the client is as before; or it is sent or refused as the client does. At any time
-- it may be refused because the house is gone.
abbrev pub Sends : ℕ → ℕ → TheClient → Result ℕ Refusal → TheClient → Type 0
Sends token units old (Ok number) new = (task_refusal units ≡ None) × SendOf (job_of token units) old (Ok number) new
Sends token units old (Err (refused.Task e)) new = (task_refusal units ≡ Some e) × (new ≡ old)
Sends token units old (Err (refused.Send e)) new = (task_refusal units ≡ None)
    × SendOf (job_of token units) old (Err (record { error = e; task = job_of token units })) new
Sends token units old (Err (refused.Handle e)) new = (task_refusal units ≡ None) × (e ≡ HouseGone) × LooksAtRing old new
Sends token units old (Err _) new = ⊥
