-- What a view sees of a step, by the reply to the step and the servers after it.
use Rattle.std.specs.Prelude.{ℕ, List, option_map, slice_get, Option, Some, None, Result, Ok, Err}
use Rattle.cbs_job.specs.Work.{Meaning}
use Rattle.cbs_steps.specs.Faces.{Face, view_of}
use Rattle.cbs_steps.specs.History.{World, account}
use Rattle.cbs_steps.specs.Promises.{promised}
use Rattle.cbs_steps.specs.declared.error.CoreError.{CoreError}
use Rattle.cbs_steps.specs.declared.error.CoreError.TheVariants as error
use Rattle.cbs_steps.specs.declared.reply.Ran.{Ran}
use Rattle.cbs_steps.specs.declared.reply.Ran.TheVariants as ran
use Rattle.cbs_steps.specs.declared.reply.Reply.{Reply}
use Rattle.cbs_steps.specs.declared.reply.Reply.TheVariants as reply
use Rattle.cbs_steps.specs.declared.view.ServerView.{ServerView}
use Rattle.cbsrun_events.specs.Events.{server_of}
use Rattle.cbsrun_events.specs.declared.seen.Arrival.{Arrival}
use Rattle.cbsrun_events.specs.declared.seen.Event.{Event}
use Rattle.cbsrun_events.specs.declared.seen.Event.TheVariants as event
use Rattle.cbsrun_events.specs.declared.seen.Seen.{Seen}

-- the result of a submit, from its reply. No other reply comes
abbrev pub answer_in : {W : Type 0} → Reply W → Result ℕ CoreError
answer_in (reply.Accepted q) = Ok q
answer_in (reply.NotAccepted e) = Err e.error
answer_in _ = Err error.NoSuchServer

-- the result of a run, from its reply. No other reply comes
abbrev pub ran_in : {W : Type 0} → Reply W → Ran
ran_in (reply.Ran r) = r
ran_in _ = ran.Idle

-- why a reply refuses an advance, a close or a charge, if it does
abbrev pub refusal_in : {W : Type 0} → Reply W → Option CoreError
refusal_in (reply.Refused e) = Some e
refusal_in _ = None

-- the tick that is promised for a server, if its submit had this result
abbrev pub promised_in : {W : Type 0} → Meaning W → World W → ℕ → Result ℕ CoreError → Option ℕ
promised_in work w s (Ok q) = promised work (account w.accounts s)
promised_in work w s (Err e) = None

-- the event of a submit, by its result and by the tick that is promised then
abbrev pub submit_seen : Arrival → Result ℕ CoreError → Option ℕ → Event
submit_seen job (Ok q) promised = event.Accepted job q promised
submit_seen job (Err e) promised = event.NotAccepted job e

-- the event of an advance, by why it is refused, if it is
abbrev pub advance_seen : ℕ → Option CoreError → Event
advance_seen n None = event.Advanced n
advance_seen n (Some e) = event.NotAdvanced n e

-- the event of a close, by why it is refused, if it is
abbrev pub close_seen : ℕ → Option CoreError → Event
close_seen s None = event.Closed s
close_seen s (Some e) = event.NotClosed s e

-- the event of a charge, by why it is refused, if it is
abbrev pub charge_seen : ℕ → ℕ → Option CoreError → Event
charge_seen s n None = event.Charged s n
charge_seen s n (Some e) = event.NotCharged s n e

-- what a server shows, if there is such a server
abbrev pub view_at : List Face → Option ℕ → Option ServerView
view_at faces None = None
view_at faces (Some s) = option_map view_of (slice_get faces s)

-- what the server of a step shows
abbrev pub view_seen : List Face → Event → Option ServerView
view_seen faces e = view_at faces (server_of e)

-- a step with this event, after which the clock and the servers are these
abbrev pub seen_at : ℕ → List Face → Event → Seen
seen_at clock faces e = record { clock = clock; event = e; view = view_seen faces e }
