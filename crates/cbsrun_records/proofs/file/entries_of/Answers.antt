use Rattle.std.proofs.Common.{◌≡◌, ℕ, Ok, Err, ap, inr, sym, ◌∙◌}
use Rattle.std.proofs.lemmas.Result.{err_from_is_err_and}
use Rattle.std.proofs.lemmas.List.Elements.{All-push}
use Rattle.toml.specs.View.{view}
use Rattle.toml.specs.declared.value.Value.{Value}
use Rattle.cbsrun_toml_tables.specs.declared.fault.Place.TheVariants.{Step as AtStep}
use Rattle.cbsrun_records.specs.Entries.{step_entry}
use Rattle.cbsrun_toml_tables.specs.Documents.{at}
use Rattle.cbsrun_records.specs.Records.{IsEntryOf}
use Rattle.cbsrun_toml_tables.proofs.Each.{goes_on, ends, is_done, each_from-map}
use Rattle.cbsrun_toml_tables.proofs.Places.{at_ok}
use Rattle.cbsrun_records.proofs.file.entries_of.Goals as goal

pub returns-in_err-entry-clause-entries : goal.returns-in_err-entry-clause-entries
returns-in_err-entry-clause-entries c =
    let i = c.loop-i.i in
    let v = c.index-steps-i.result in
    let p = err_from_is_err_and c.from_residual.result c.from_residual.ensures.1 in
    let f : at (AtStep i) (step_entry c.args.servers (view v)) ≡ Err c.in_err-entry.field-0.0 =
    ap (at (AtStep i)) (sym c.step_entry.ensures.step) ∙ sym c.at.ensures ∙ c.in_err-entry.was in
    rw (p.1, p.2) (inr (each_from-map view (λ i entry. at (AtStep i) (step_entry c.args.servers entry)) 0 c.args.steps.now
    ∙ ends (λ i v. at (AtStep i) (step_entry c.args.servers (view v))) c.loop-i.entries.items i c.args.steps.now v
    c.in_err-entry.field-0.0 _ c.loop-i-test.true (rw (← c.index-steps-i.is) f) c.loop-i.invariant.so_far))

pub loop-i-preserved : goal.loop-i-preserved
loop-i-preserved c =
    let i = c.loop-i.i in
    let v = c.index-steps-i.result in
    let f = λ (i : ℕ) (v : Value). at (AtStep i) (step_entry c.args.servers (view v)) in
    let next : at (AtStep i) (step_entry c.args.servers (view v)) ≡ Ok c.in_ok-entry.entry =
    ap (at (AtStep i)) (sym c.step_entry.ensures.step) ∙ sym c.at.ensures ∙ c.in_ok-entry.was in
    let is : c.step_entry.result ≡ Ok c.in_ok-entry.entry = at_ok (AtStep i) c.step_entry.result c.in_ok-entry.entry (sym c.at.ensures ∙ c.in_ok-entry.was) in
    let named : IsEntryOf c.args.servers c.in_ok-entry.entry = rw is at c.step_entry.ensures.lawful in
    rw c.in-Ok.ensures.items (record {
      so_far = goes_on f c.loop-i.entries.items i c.args.steps.now v c.in_ok-entry.entry _ c.loop-i-test.true
          (rw (← c.index-steps-i.is) next) c.loop-i.invariant.so_far;
      lawful = All-push (IsEntryOf c.args.servers) c.loop-i.entries.items c.in_ok-entry.entry c.loop-i.invariant.lawful named;
    })

pub returns-clause-entries : goal.returns-clause-entries
returns-clause-entries c = each_from-map view (λ i entry. at (AtStep i) (step_entry c.args.servers entry)) 0 c.args.steps.now
    ∙ is_done (λ i v. at (AtStep i) (step_entry c.args.servers (view v))) c.loop-i.entries.items c.loop-i.i c.args.steps.now
    _ c.loop-i-test.false c.loop-i.invariant.so_far
