use Rattle.std.proofs.Common.{◌≡◌, ◌∙◌, [], ◌∷◌, inr, refl}
use Rattle.std.proofs.lemmas.Result.{on_err_weaker, on_ok_weaker}
use Rattle.cbsrun_runs.specs.Steps.{seen_after}
use Rattle.cbsrun_runs.proofs.MadeSteps.{made_seen}
use Rattle.cbsrun_runs.proofs.SeenSteps.{on_err_always, one_seen, stops_before}
use Rattle.cbsrun_runs.proofs.steps.show_step.Goals as goal

pub returns-clause-shown : goal.returns-clause-shown
returns-clause-shown g c = on_ok_weaker c.see.result (λ shown. record {
  state = λ M agrees. (c.in_ok-event.ensures.makes M agrees).state;
  seen = λ M agrees first seen saw.
      let work = g.W.Work.meaning in
      let is : c.seen_by.result ≡ seen_after work M c.args.step = c.seen_by.ensures ∙ made_seen work M c.args.step _ _ (c.in_ok-event.ensures.makes M agrees) in
      rw (one_seen work M c.args.step seen) (rw is at (shown first seen saw));
  completes = λ M agrees. (c.in_ok-event.ensures.makes M agrees).completes;
}) c.see.ensures.saw

pub returns-in_err-event-clause-stopped : goal.returns-in_err-event-clause-stopped
returns-in_err-event-clause-stopped g c = on_err_always c.from_residual.result (λ M agrees.
    stops_before g.W.Work.meaning g.V.View.saw g.V.View.failed M c.args.step _ _ (c.in_err-event.ensures.unchanged M agrees))

pub returns-clause-stopped : goal.returns-clause-stopped
returns-clause-stopped g c = on_err_weaker c.see.result (λ failed M agrees.
    let work = g.W.Work.meaning in
    let made = c.in_ok-event.ensures.makes M agrees in
    let is : c.seen_by.result ≡ seen_after work M c.args.step = c.seen_by.ensures ∙ made_seen work M c.args.step _ _ made in
    record {
      made = c.args.step ∷ [];
      left = [];
      all = refl;
      state = made.state;
      seen = λ first seen saw. inr (rw (one_seen work M c.args.step seen) (rw is at (failed first seen saw)));
    }) c.see.ensures.failed
