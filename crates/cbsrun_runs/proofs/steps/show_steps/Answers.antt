use Rattle.std.proofs.Common.{◌≡◌, ◌∙◌, ◌++◌, ◌∷◌, [], append_assoc, ap, sym, length, arith, rules}
use Rattle.std.proofs.lemmas.List.{nil_from_length}
use Rattle.std.specs.Vec.Iter.{into_iter_items}
use Rattle.cbs_core.proofs.Laws.{all_yielded}
use Rattle.cbsrun_runs.proofs.SeenSteps.{on_err_always, shows_both, shows_none, stops_later}
use Rattle.cbsrun_runs.proofs.steps.show_steps.Goals as goal

pub loop-step-init : goal.loop-step-init
loop-step-init g c =
    let steps : into_iter_items c.into_iter-step-iterator.result ≡ c.args.steps.items = c.into_iter-step-iterator.ensures.into_iter_gives.0 in
    record {
      count = search rules;
      split = sym steps;
      ready = c.requires;
      shown = shows_none g.W.Work.meaning g.V.View.saw _ _;
    }

pub loop-step-preserved : goal.loop-step-preserved
loop-step-preserved g c = record {
  count = omega (arith, ap length c.in-Some.ensures.steps.0, c.in-Some.ensures.steps.1, c.loop-step.invariant.count);
  split = c.loop-step.invariant.split ∙ ap (λ xs. c.loop-step.yielded ++ xs) c.in-Some.ensures.steps.0
      ∙ sym (append_assoc c.loop-step.yielded (c.in-Some.step ∷ []) (into_iter_items c.next.new.self));
  ready = c.in_ok-show_step.ensures.ready;
  shown = shows_both g.W.Work.meaning g.V.View.saw c.loop-step.yielded (c.in-Some.step ∷ []) _ _ _ _ _ _ c.loop-step.invariant.shown
      c.in_ok-show_step.ensures.shown;
}

pub returns-clause-shown : goal.returns-clause-shown
returns-clause-shown g c =
    let none : into_iter_items c.loop-step.step-iterator ≡ [] = nil_from_length _ (sym c.loop-step.invariant.count ∙ c.in-None.ensures.steps.0) in
    rw (all_yielded c.args.steps.items c.loop-step.yielded _ c.loop-step.invariant.split none) c.loop-step.invariant.shown

pub returns-in_err-show_step-clause-stopped : goal.returns-in_err-show_step-clause-stopped
returns-in_err-show_step-clause-stopped g c = on_err_always c.from_residual.result (
    let done = c.loop-step.yielded in
    let rest = into_iter_items c.next.new.self in
    let all : done ++ c.in-Some.step ∷ rest ≡ c.args.steps.items =
    sym (c.loop-step.invariant.split ∙ ap (λ xs. done ++ xs) c.in-Some.ensures.steps.0) in
    stops_later g.W.Work.meaning g.V.View.saw g.V.View.failed done (c.in-Some.step ∷ []) rest c.args.steps.items _ _ _ _ _ _ all
    c.loop-step.invariant.shown c.in_err-show_step.ensures.stopped)
