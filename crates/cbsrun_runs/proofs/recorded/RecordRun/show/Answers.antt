use Rattle.std.proofs.Common.{◌≡◌, []}
use Rattle.cbs_core.proofs.Laws.{punctual_after, steps_close}
use Rattle.cbs_core.specs.Agreement.{Agrees}
use Rattle.cbs_units.specs.Counting.{counting}
use Rattle.cbsrun_runs.specs.Records.{start_of_record, steps_in_record}
use Rattle.cbsrun_runs.proofs.Runs.{saw_none}
use Rattle.cbsrun_runs.proofs.SeenSteps.{on_err_always, saw_some_of}
use Rattle.cbsrun_runs.proofs.StepTurns.{steps_in_turn}
use Rattle.cbsrun_runs.proofs.recorded.RecordRun.show.Goals as goal

pub returns-clause-in_order : goal.returns-clause-in_order
returns-clause-in_order g c = λ s lt. steps_in_turn counting s (start_of_record c.args.self.now) (steps_in_record c.args.self.now) [] tt

pub returns-clause-lawful : goal.returns-clause-lawful
returns-clause-lawful g c =
    let f = c.args.self.now in
    let start = start_of_record f in
    let agrees : Agrees counting c.in-Ok.core start =
    rw (← c.plan.ensures, ← c.modes.ensures, ← c.backlog.ensures.value) c.in-Ok.ensures.start in
    record {
      completions = λ s. rw c.entries.ensures.value at (c.in_ok-show_entries.ensures.shown.completes start agrees s);
      closes = λ s. steps_close counting start (steps_in_record f) s;
      punctual = punctual_after counting start (rw (← c.plan.ensures, ← c.modes.ensures, ← c.backlog.ensures.value) c.in-Ok.ensures.punctual) (steps_in_record f);
    }

pub returns-in_default-clause-stopped : goal.returns-in_default-clause-stopped
returns-in_default-clause-stopped g c = λ first was. saw_none g.V.View.saw g.V.View.failed first _ _ was

pub returns-in_err-show_entries-clause-stopped : goal.returns-in_err-show_entries-clause-stopped
returns-in_err-show_entries-clause-stopped g c = on_err_always c.from_residual.result (λ first was.
    let f = c.args.self.now in
    let start = start_of_record f in
    let agrees : Agrees counting c.in-Ok.core start =
    rw (← c.plan.ensures, ← c.modes.ensures, ← c.backlog.ensures.value) c.in-Ok.ensures.start in
    rw c.entries.ensures.value at (saw_some_of counting g.V.View.saw g.V.View.failed start _ _ first _ _
    (c.in_err-show_entries.ensures.stopped start agrees) was))
