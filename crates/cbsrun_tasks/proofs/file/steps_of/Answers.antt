use Rattle.std.proofs.Common.{◌≡◌, ℕ, Ok, inl, inr, sym, ◌∙◌}
use Rattle.std.proofs.lemmas.Result.{err_from_is_err_and}
use Rattle.std.proofs.lemmas.List.Elements.{All-push}
use Rattle.toml.specs.View.{view}
use Rattle.toml.specs.declared.value.Value.{Value}
use Rattle.cbsrun_toml_tables.specs.declared.fault.Place.TheVariants.{Step as AtStep}
use Rattle.cbsrun_task_steps.specs.Entries.{step_entry}
use Rattle.cbsrun_toml_tables.specs.Documents.{at, no_memory}
use Rattle.cbsrun_task_steps.specs.Entries.{IsFileStep}
use Rattle.cbsrun_toml_tables.proofs.Each.{goes_on, ends, is_done, each_from-map}
use Rattle.cbsrun_toml_tables.proofs.Places.{Gives-at, gives_ok, gives_err, at_ok}
use Rattle.cbsrun_tasks.proofs.file.steps_of.Goals as goal

pub returns-in_err-step-clause-steps : goal.returns-in_err-step-clause-steps
returns-in_err-step-clause-steps c =
    let i = c.loop-i.i in
    let v = c.index-entries-i.result in
    let p = err_from_is_err_and c.from_residual.result c.from_residual.ensures.1 in
    let given = Gives-at (AtStep i) (λ s. s) c.step_entry.result (step_entry c.args.format c.args.servers (view v)) c.step_entry.ensures.step in
    let fault = gives_err no_memory (λ s. s) (at (AtStep i) c.step_entry.result) _ c.in_err-step.field-0.0 given (sym c.at.ensures ∙ c.in_err-step.was) in
    rw (p.1, p.2) (elim fault [
      | inl m ↦ inl m
      | inr f ↦ inr (each_from-map view (λ i entry. at (AtStep i) (step_entry c.args.format c.args.servers entry)) 0 c.args.entries.now
          ∙ ends (λ i v. at (AtStep i) (step_entry c.args.format c.args.servers (view v))) c.loop-i.steps.items i c.args.entries.now v
          c.in_err-step.field-0.0 _ c.loop-i-test.true (rw (← c.index-entries-i.is) f) c.loop-i.invariant.so_far)
    ])

pub loop-i-preserved : goal.loop-i-preserved
loop-i-preserved c =
    let i = c.loop-i.i in
    let v = c.index-entries-i.result in
    let f = λ (i : ℕ) (v : Value). at (AtStep i) (step_entry c.args.format c.args.servers (view v)) in
    let given = Gives-at (AtStep i) (λ s. s) c.step_entry.result (step_entry c.args.format c.args.servers (view v)) c.step_entry.ensures.step in
    let next = gives_ok no_memory (λ s. s) (at (AtStep i) c.step_entry.result) _ c.in_ok-step.step given (sym c.at.ensures ∙ c.in_ok-step.was) in
    let is : c.step_entry.result ≡ Ok c.in_ok-step.step = at_ok (AtStep i) c.step_entry.result c.in_ok-step.step (sym c.at.ensures ∙ c.in_ok-step.was) in
    let named : IsFileStep c.args.servers c.in_ok-step.step = rw is at c.step_entry.ensures.named in
    rw c.in-Ok.ensures.items (record {
      so_far = goes_on f c.loop-i.steps.items i c.args.entries.now v c.in_ok-step.step _ c.loop-i-test.true
          (rw (← c.index-entries-i.is) next) c.loop-i.invariant.so_far;
      named = All-push (IsFileStep c.args.servers) c.loop-i.steps.items c.in_ok-step.step c.loop-i.invariant.named named;
    })

pub returns-clause-steps : goal.returns-clause-steps
returns-clause-steps c = each_from-map view (λ i entry. at (AtStep i) (step_entry c.args.format c.args.servers entry)) 0 c.args.entries.now
    ∙ is_done (λ i v. at (AtStep i) (step_entry c.args.format c.args.servers (view v))) c.loop-i.steps.items c.loop-i.i c.args.entries.now
    _ c.loop-i-test.false c.loop-i.invariant.so_far
