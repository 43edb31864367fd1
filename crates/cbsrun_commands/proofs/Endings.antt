-- How a command on a file ends, by what it did and by what was told of it.
use Rattle.std.proofs.Common.{◌≡◌, ◌&&◌, not, Bool, true, false, List, ℕ, ap, arith, subst, Option, Some, None, Result, Ok, Err, inl, inr}
use Rattle.std.specs.Prelude.{◌≢◌, IfOk}
use Rattle.cbsrun_tasks.specs.Spelling.{file}
use Rattle.cbsrun_tasks.specs.TaskFiles.{File}
use Rattle.cbsrun_toml_tables.specs.declared.fault.FileFault.{FileFault}
use Rattle.cbsrun_runs.specs.Tasks.{clock_of_tasks}
use Rattle.cbsrun_options.specs.declared.actions.Form.{Form}
use Rattle.cbsrun_commands.specs.Outputs.{IsTaskReportText}
use Rattle.cbsrun_lines.specs.Writers.{Writer, IsUntouched}
use Rattle.cbsrun_lines.specs.declared.run_error.RunError.{RunError}
use Rattle.cbsrun_lines.specs.declared.run_error.RunError.TheVariants.{OutOfMemory, WriteFault, ClockEnd, Stalled}
use Rattle.cbsrun_commands.specs.Commands.{Command, Does, EndsAs, EndsByAnswer, EndsCheck, Tells, TellsAnswer, TellsCheck, answered, closed_pipe, checked, done, not_done, unread}
use Rattle.cbsrun_commands.specs.Commands.{DoesOrLacks, EndsOrLacks, TellsOrLacks, ended, lacking}
use Rattle.cbsrun_commands.specs.Commands.{nothing_shown, refused, status_done, stopped}
use Rattle.cbsrun_commands.specs.FaultLines.{Prints, StopsPrinting}
use Rattle.cbsrun_commands.specs.declared.ending.Stopped.{Stopped}
use Rattle.cbsrun_commands.specs.declared.ending.Stopped.TheVariants.{Unread, Ended, Run}

-- a text that is printed has every property that all such texts have
pub stops_as : (is is' : List ℕ → Type 0) → ((t : List ℕ) → is t → is' t) → (short : Writer → Writer → Type 0) (error : RunError) (old new : Writer)
    → StopsPrinting is short error old new → StopsPrinting is' short error old new
stops_as is is' f short OutOfMemory old new h = h
stops_as is is' f short WriteFault old new h = (h.0, f h.0 h.1, h.2)
stops_as is is' f short ClockEnd old new h = h
stops_as is is' f short Stalled old new h = h

-- the same, whether the text was printed whole or not
pub prints_as : (is is' : List ℕ → Type 0) → ((t : List ℕ) → is t → is' t) → (r : Result (Unit {0}) RunError) (old new : Writer)
    → Prints is r old new → Prints is' r old new
prints_as is is' f (Ok x) old new h = (h.0, f h.0 h.1, h.2)
prints_as is is' f (Err error) old new h = stops_as is is' f IsUntouched error old new h

-- bytes spell one file, whose steps end at one tick
pub same_file : (bytes : List ℕ) (f h : File) → file bytes ≡ Ok f → file bytes ≡ Ok h → clock_of_tasks f ≡ clock_of_tasks h
same_file bytes f h p q = let same : f ≡ h = cc in ap clock_of_tasks same

-- the report of a task file is that of its run
pub told_of : (form : Form) (name : List ℕ) (r f : File) (text : List ℕ) → r ≡ f → IsTaskReportText form name r text → IsTaskReportText form name f text
told_of form name r f text is told = subst (λ (g : File). IsTaskReportText form name g text) is told

-- a command ends as it did, and as it was told
pub ends : {F : Type 0} (c : Command F) (name bytes : List ℕ) (closed : Bool) (out out' err err' : Writer) (ended : Result (Unit {0}) Stopped) (status : ℕ)
    → Does c bytes ended out out' → Tells name bytes closed ended err err' status → EndsAs c name bytes closed out out' err err' status
ends c name bytes closed out out' err err' (Ok x) status d t = rw t.0 (done d.0 d.1 d.2 d.3 d.4 t.1)
ends c name bytes closed out out' err err' (Err (Unread fault)) status d t = rw t.0 (refused fault d.0 d.1 t.1)
ends c name bytes closed out out' err err' (Err (Ended e)) status d t = rw t.0 (nothing_shown d.0 e d.1 d.2 d.3 t.1)
ends c name bytes closed out out' err err' (Err (Run error)) status d (inl (broke, is, kept)) =
    let cut = subst (λ (e : RunError). StopsPrinting (c.prints d.0) (c.short d.0) e out out') broke.0 d.2 in
    rw is (closed_pipe d.0 cut.0 d.1 cut.1 cut.2 broke.1 kept)
ends c name bytes closed out out' err err' (Err (Run error)) status d (inr (other, is, told)) = rw is (stopped d.0 error d.1 d.2 other told)

-- a command that may find nothing to print ends as it did, and as it was told
pub ends_or_lacks : {F A : Type 0} (c : Command F) (lacks : F → Type 0) (name bytes : List ℕ) (closed : Bool) (out out' err err' : Writer)
    (ended : Result (Option A) Stopped) (status : ℕ) → DoesOrLacks c lacks bytes ended out out' → TellsOrLacks name bytes closed ended err err' status
    → EndsOrLacks c lacks name bytes closed out out' err err' status
ends_or_lacks c lacks name bytes closed out out' err err' (Ok None) status d t =
    ended status (ends c name bytes closed out out' err err' (Ok tt) status d t)
ends_or_lacks c lacks name bytes closed out out' err err' (Ok (Some why)) status d t = rw t.0 (lacking d.0 t.1.0 d.1 d.2 d.3 t.1.1)
ends_or_lacks c lacks name bytes closed out out' err err' (Err cause) status d t =
    ended status (ends c name bytes closed out out' err err' (Err cause) status d t)

-- bytes spell one file, of which each answer is one of the file that was found
answer_of : {F : Type 0} (read : Result F FileFault) (answers : F → Bool → Type 0) (answer : Bool) (f h : F) → read ≡ Ok f → read ≡ Ok h
    → answers h answer → answers f answer
answer_of {F} read answers answer f h p q told = let same : h ≡ f = cc in subst (λ (g : F). answers g answer) same told

-- with `--strict` no pipe counts as closed
never_closed : (closed strict : Bool) → (closed && not strict) ≡ true → strict ≡ true → ⊥
never_closed true true p q = absurd cc
never_closed true false p q = absurd cc
never_closed false strict p q = absurd cc

-- a command with an answer ends as it did, and as it was told
pub ends_by_answer : {F : Type 0} (c : Command F) (answers : F → Bool → Type 0) (strict : Bool) (name bytes : List ℕ) (closed : Bool)
    (out out' err err' : Writer) (ended : Result Bool Stopped) (status : ℕ) → Does c bytes ended out out'
    → IfOk ended (λ answer. (f : F) × (c.read bytes ≡ Ok f) × answers f answer) → TellsAnswer strict name bytes closed ended err err' status
    → EndsByAnswer c answers strict name bytes closed out out' err err' status
ends_by_answer c answers strict name bytes closed out out' err err' (Ok answer) status d a t =
    rw t.0 (answered d.0 d.1 answer d.2 d.3 (answer_of (c.read bytes) answers answer d.0 a.0 d.2 a.1 a.2) d.4 t.1)
ends_by_answer c answers strict name bytes closed out out' err err' (Err (Unread fault)) status d a t =
    rw t.0 (not_done 3 (λ is e. absurd (omega arith)) (refused fault d.0 d.1 t.1))
ends_by_answer c answers strict name bytes closed out out' err err' (Err (Ended e)) status d a t =
    rw t.0 (not_done 2 (λ is e. absurd (omega arith)) (nothing_shown d.0 e d.1 d.2 d.3 t.1))
ends_by_answer c answers strict name bytes closed out out' err err' (Err (Run error)) status d a (inl (broke, is, kept)) =
    not_done status (λ asked e. never_closed closed strict broke.1 asked)
    (ends c name bytes (closed && not strict) out out' err err' (Err (Run error)) status d (inl (broke, is, kept)))
ends_by_answer c answers strict name bytes closed out out' err err' (Err (Run error)) status d a (inr (other, is, told)) =
    rw is (not_done 4 (λ asked e. absurd (omega arith)) (stopped d.0 error d.1 d.2 other told))

-- a command that is done has not the status of a file with a fault
never_unread : (strict answer : Bool) (status : ℕ) → status ≡ status_done strict answer → status ≢ 3
never_unread true true status is e = absurd (omega (arith, is, e))
never_unread true false status is e = absurd (omega (arith, is, e))
never_unread false answer status is e = absurd (omega (arith, is, e))

-- `check` ends as it did, and as it was told
pub ends_check : {F : Type 0} (c : Command F) (answers : F → Bool → Type 0) (strict : Bool) (name bytes : List ℕ) (closed : Bool)
    (out out' err err' : Writer) (ended : Result Bool Stopped) (status : ℕ) → Does c bytes ended out out'
    → IfOk ended (λ answer. (f : F) × (c.read bytes ≡ Ok f) × answers f answer) → TellsCheck strict name bytes closed ended err err' status
    → EndsCheck c answers strict name bytes closed out out' err err' status
ends_check c answers strict name bytes closed out out' err err' (Ok answer) status d a t =
    checked status (never_unread strict answer status t.0) (ends_by_answer c answers strict name bytes closed out out' err err' (Ok answer) status d a t)
ends_check c answers strict name bytes closed out out' err err' (Err (Unread fault)) status d a t = rw t.0 (unread fault d.0 d.1 t.1)
ends_check c answers strict name bytes closed out out' err err' (Err (Ended e)) status d a t =
    checked status (λ is. absurd (omega (arith, t.0, is)))
    (ends_by_answer c answers strict name bytes closed out out' err err' (Err (Ended e)) status d a t)
ends_check c answers strict name bytes closed out out' err err' (Err (Run error)) status d a (inl (broke, is, kept)) =
    checked status (λ e. absurd (omega (arith, is, e)))
    (ends_by_answer c answers strict name bytes closed out out' err err' (Err (Run error)) status d a (inl (broke, is, kept)))
ends_check c answers strict name bytes closed out out' err err' (Err (Run error)) status d a (inr (other, is, told)) =
    checked status (λ e. absurd (omega (arith, is, e)))
    (ends_by_answer c answers strict name bytes closed out out' err err' (Err (Run error)) status d a (inr (other, is, told)))
