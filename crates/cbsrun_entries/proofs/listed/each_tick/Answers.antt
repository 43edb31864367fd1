use Rattle.std.proofs.Common.{◌≡◌, ◌≤◌, ℕ, Ok, Err, inr, get_or, sym, ◌∙◌, rules}
use Rattle.std.proofs.lemmas.Result.{err_from_is_err_and}
use Rattle.std.proofs.lemmas.List.Elements.{All-push}
use Rattle.toml.specs.View.{view}
use Rattle.cbs_rules.specs.Rules.{clock_end}
use Rattle.cbsrun_toml_tables.proofs.Each.{goes_on, ends, is_done, each_from-map}
use Rattle.cbsrun_entries.specs.Sources.{listed_tick}
use Rattle.cbsrun_entries.proofs.listed.each_tick.Goals as goal

pub returns-in_err-listed_tick-clause-value : goal.returns-in_err-listed_tick-clause-value
returns-in_err-listed_tick-clause-value c =
    let given : listed_tick c.args.tick (view (get_or c.args.values.now c.loop-value.value-index c.value-item.result))
    ≡ Err c.in_err-listed_tick.field-0.0 = rw (← c.value-item.is) (sym c.listed_tick.ensures.value ∙ c.in_err-listed_tick.was) in
    let total = ends (λ _ v. listed_tick c.args.tick (view v)) c.loop-value.listed.items c.loop-value.value-index c.args.values.now
    c.value-item.result c.in_err-listed_tick.field-0.0 _ c.loop-value-test.true given c.loop-value.invariant.so_far in
    let p = err_from_is_err_and c.from_residual-in_err-listed_tick.result c.from_residual-in_err-listed_tick.ensures.1 in
    rw (p.1, p.2) (inr (each_from-map view (λ _. listed_tick c.args.tick) 0 c.args.values.now ∙ total))

pub loop-value-preserved : goal.loop-value-preserved
loop-value-preserved c =
    let given : listed_tick c.args.tick (view (get_or c.args.values.now c.loop-value.value-index c.value-item.result))
    ≡ Ok c.in_ok-listed_tick.field-0 = rw (← c.value-item.is) (sym c.listed_tick.ensures.value ∙ c.in_ok-listed_tick.was) in
    rw c.in_ok-push.ensures.items (record {
      so_far = goes_on (λ _ v. listed_tick c.args.tick (view v)) c.loop-value.listed.items
          c.loop-value.value-index c.args.values.now c.value-item.result c.in_ok-listed_tick.field-0 _ c.loop-value-test.true given c.loop-value.invariant.so_far;
      count = search rules;
      early = All-push (λ (n : ℕ). n ≤ clock_end) c.loop-value.listed.items c.in_ok-listed_tick.field-0 c.loop-value.invariant.early c.in_ok-listed_tick.ensures.early;
    })

pub returns-clause-value : goal.returns-clause-value
returns-clause-value c = each_from-map view (λ _. listed_tick c.args.tick) 0 c.args.values.now
    ∙ is_done (λ _ v. listed_tick c.args.tick (view v)) c.loop-value.listed.items c.loop-value.value-index c.args.values.now _
    c.loop-value-test.false c.loop-value.invariant.so_far
