-- The line of a step: the clock, the call, its result, and the state of a server. That server accepted a job, ran or was
-- charged.
use Rattle.std.specs.Prelude.{ℕ, List, [], ◌∷◌, ◌++◌, codes, decimal, Option, Some, None, if◌then◌else◌, ◌≡◌, ◌⊎◌, true, false, Result, Ok, Err}
use Rattle.cbs_steps.specs.Errors.{core_error_name}
use Rattle.cbs_steps.specs.declared.error.CoreError.{CoreError}
use Rattle.cbs_steps.specs.declared.reply.Ran.{Ran}
use Rattle.cbs_steps.specs.declared.reply.Ran.TheVariants as ran
use Rattle.cbs_steps.specs.declared.view.ServerView.{ServerView}
use Rattle.cbsrun_events.specs.declared.seen.Event.{Event}
use Rattle.cbsrun_events.specs.declared.seen.Event.TheVariants as event
use Rattle.cbsrun_events.specs.declared.seen.Seen.{Seen}
use Rattle.cbsrun_lines.specs.Writers.{Writer, WritesAllBut, FailsToWrite}
use Rattle.cbsrun_lines.specs.declared.lines.Lines.{Lines}

-- the call of a step
abbrev pub call_text : Event → List ℕ
call_text (event.Accepted job q promised) = codes "submit " ++ decimal job.server
call_text (event.NotAccepted job e) = codes "submit " ++ decimal job.server
call_text (event.Ran r) = codes "run"
call_text (event.Advanced n) = codes "advance " ++ decimal n
call_text (event.NotAdvanced n e) = codes "advance " ++ decimal n
call_text (event.Closed s) = codes "close " ++ decimal s
call_text (event.NotClosed s e) = codes "close " ++ decimal s
call_text (event.Charged s n) = codes "charge " ++ decimal s ++ codes " " ++ decimal n
call_text (event.NotCharged s n e) = codes "charge " ++ decimal s ++ codes " " ++ decimal n

-- the error of a refused call
abbrev pub error_text : CoreError → List ℕ
error_text error = codes " refused " ++ core_error_name error

-- the result of a run
abbrev pub ran_text : Ran → List ℕ
ran_text ran.Idle = codes " idle"
ran_text ran.ClockEnd = codes " refused ClockEnd"
ran_text (ran.Unit server seq) = codes " " ++ decimal server ++ codes " job " ++ decimal seq
ran_text (ran.Done done) = codes " " ++ decimal done.server ++ codes " job " ++ decimal done.seq ++ codes " done " ++ decimal done.result

-- the result of a step
abbrev pub result_text : Event → List ℕ
result_text (event.Accepted job q promised) = codes " job " ++ decimal q ++ codes " accepted"
result_text (event.NotAccepted job e) = error_text e
result_text (event.Ran r) = ran_text r
result_text (event.NotAdvanced n e) = error_text e
result_text (event.NotClosed s e) = error_text e
result_text (event.NotCharged s n e) = error_text e
result_text _ = []

-- the view of the server that the line of a step shows: none, if a job was refused
abbrev pub view_told : Event → Option ServerView → Option ServerView
view_told (event.NotAccepted job e) view = None
view_told _ view = view

-- the budget c and the deadline d of a server, and whether the server is throttled
abbrev pub state_text : Option ServerView → List ℕ
state_text None = []
state_text (Some view) = codes " c=" ++ decimal view.budget ++ codes " d=" ++ decimal view.deadline ++ (if view.throttled then codes " throttled" else [])

-- the line of a step, with a line feed at its end
abbrev pub line_of : Seen → List ℕ
line_of o = codes "@" ++ decimal o.clock ++ codes " " ++ call_text o.event ++ result_text o.event ++ state_text (view_told o.event o.view) ++ codes "\n"

-- the lines of steps that are given with the newest first
unfoldable pub lines_of : List Seen → List ℕ
lines_of [] = []
lines_of (o ∷ os) = lines_of os ++ line_of o

-- the lines of the steps were written, except for the text that waits, and no call failed
pub record HasWritten (lines : Lines) (old new : Writer) (seen : List Seen) : Type 0 where
  pub well : lines.write_failed ≡ false
  pub writes : WritesAllBut old new lines.pending (lines_of seen)

-- a prefix of the lines was written, and then a call failed. Or the lines of all steps but the newest were written,
-- except for the text that waits
abbrev pub FailedToWrite : Lines → Writer → Writer → List Seen → Type 0
FailedToWrite lines old new seen =
    ((lines.write_failed ≡ true) × FailsToWrite old new (lines_of seen))
    ⊎ ((o : Seen) × (os : List Seen) × (seen ≡ o ∷ os) × HasWritten lines old new os)

-- the lines of the first steps were written so, up to some step, or the last of them could not be written
pub record WroteSome (lines : Lines) (old new : Writer) (steps : List Seen) : Type 0 where
  pub later : List Seen
  pub done : List Seen
  pub all : later ++ done ≡ steps
  pub wrote : HasWritten lines old new done ⊎ FailedToWrite lines old new done

-- what was written so of the lines of steps that were shown with this result
abbrev pub WroteShown : {T E : Type 0} → Result T E → Lines → Writer → Writer → List Seen → Type 0
WroteShown (Ok x) = HasWritten
WroteShown (Err e) = WroteSome
