use Rattle.std.proofs.Common.{◌≡◌, Ok, Err, inr, get_or, sym, ◌∙◌, rules}
use Rattle.std.proofs.lemmas.Result.{err_from_is_err_and}
use Rattle.toml.specs.View.{view}
use Rattle.cbsrun_toml_tables.specs.Fields.{number}
use Rattle.cbsrun_toml_tables.proofs.Each.{goes_on, ends, is_done, each_from-map}
use Rattle.cbsrun_toml_tables.proofs.fields.units.Goals as goal

pub returns-in_err-number-clause-value : goal.returns-in_err-number-clause-value
returns-in_err-number-clause-value c =
    let given : number 0 4294967295 (view (get_or c.args.values.now c.loop-value.value-index c.value-item.result))
    ≡ Err c.in_err-number.field-0.0 = rw (← c.value-item.is) (sym c.number.ensures.value ∙ c.in_err-number.was) in
    let total = ends (λ _ v. number 0 4294967295 (view v)) c.loop-value.units.items c.loop-value.value-index c.args.values.now
    c.value-item.result c.in_err-number.field-0.0 _ c.loop-value-test.true given c.loop-value.invariant.so_far in
    let p = err_from_is_err_and c.from_residual-in_err-number.result c.from_residual-in_err-number.ensures.1 in
    rw (p.1, p.2) (inr (each_from-map view (λ _. number 0 4294967295) 0 c.args.values.now ∙ total))

pub loop-value-preserved : goal.loop-value-preserved
loop-value-preserved c =
    let given : number 0 4294967295 (view (get_or c.args.values.now c.loop-value.value-index c.value-item.result))
    ≡ Ok c.in_ok-number.field-0 = rw (← c.value-item.is) (sym c.number.ensures.value ∙ c.in_ok-number.was) in
    record {
      so_far = rw c.in_ok-push.ensures.items (goes_on (λ _ v. number 0 4294967295 (view v)) c.loop-value.units.items
          c.loop-value.value-index c.args.values.now c.value-item.result c.in_ok-number.field-0 _ c.loop-value-test.true given c.loop-value.invariant.so_far);
      count = search rules;
    }

pub returns-clause-value : goal.returns-clause-value
returns-clause-value c = each_from-map view (λ _. number 0 4294967295) 0 c.args.values.now
    ∙ is_done (λ _ v. number 0 4294967295 (view v)) c.loop-value.units.items c.loop-value.value-index c.args.values.now _
    c.loop-value-test.false c.loop-value.invariant.so_far
