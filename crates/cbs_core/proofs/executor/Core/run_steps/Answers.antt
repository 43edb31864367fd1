use Rattle.std.proofs.Common.{◌≡◌, ◌++◌, ◌∷◌, [], arith, length, rules, refl, sym, ◌∙◌, ap, append_assoc}
use Rattle.std.proofs.lemmas.Grind.{common_steps}
use Rattle.std.proofs.lemmas.List.{nil_from_length}
use Rattle.std.specs.Vec.Iter.{into_iter_items}
use Rattle.cbs_steps.specs.Laws.{account_in}
use Rattle.cbs_steps.proofs.StepLists.{AnswersAll-push, all_yielded, grown_by-push}
use Rattle.cbs_steps.proofs.Completions.{Completes-none, completes_more}
use Rattle.cbs_core.proofs.Completions.{step_completes}
use Rattle.cbs_core.proofs.Calls.{tries_answers, tries_state, tries_count, tries_budgets}
use Rattle.cbs_core.proofs.Cores.{budgets_kept}
use Rattle.cbs_steps.proofs.ClosedServers.{NoneAfterClose-all}
use Rattle.cbs_steps.proofs.OnTime.{on_time_grown}
use Rattle.cbs_steps.proofs.PacedWorlds.{paced_grown}
use Rattle.cbs_core.proofs.LawfulCores.{admitted_by, core_punctual}
use Rattle.cbs_core.proofs.executor.Core.run_steps.Goals as goal

pub loop-step-init : goal.loop-step-init
loop-step-init g c = record {
  can = tt;
  finite = tt;
  count = search (rules, common_steps);
  split = search (rules, common_steps);
  servers = refl;
  budgets = rw (← c.self.view_is) (budgets_kept c.self.invariant);
  room = search (rules, common_steps);
  replies = λ M agrees. search (rules, common_steps);
  state = λ M agrees. search (rules, common_steps);
  completions = λ M agrees s. rw c.in-Ok-with_capacity.ensures.items (Completes-none g.W.Work.meaning (account_in g.W.Work.meaning M s));
}

pub loop-step-preserved : goal.loop-step-preserved
loop-step-preserved g c =
    let l = c.loop-step in
    let i = l.invariant in
    let pushed = c.push_reserved.ensures in
    let tries = c.make-reply.ensures.tries in
    let steps = c.in-Some.ensures.steps in
    let answers = tries_answers g.W.Work.meaning _ _ _ _ tries in
    let state = tries_state g.W.Work.meaning _ _ _ _ tries in
    record {
      can = tt;
      finite = tt;
      count = omega (arith, ap length steps.0, steps.1, i.count);
      split = i.split ∙ ap (λ xs. l.yielded ++ xs) steps.0 ∙ sym (append_assoc l.yielded (c.in-Some.step ∷ []) (into_iter_items c.next.new.self));
      servers = tries_count g.W.Work.meaning _ _ _ _ tries ∙ i.servers;
      budgets = tries_budgets g.W.Work.meaning _ _ _ _ tries;
      room = omega (arith, pushed.len, pushed.capacity, steps.1, i.room);
      replies = λ M agrees.
          rw pushed.items (AnswersAll-push g.W.Work.meaning M _ _ _ _ (i.replies M agrees) (answers _ (i.state M agrees)));
      state = λ M agrees.
          rw (pushed.items, grown_by-push g.W.Work.meaning M _ _ _ _ (i.replies M agrees)) (state _ (i.state M agrees));
      completions = λ M agrees s.
          let before = i.state M agrees in
          rw pushed.items
          (completes_more g.W.Work.meaning M _ _ _ _ s (i.replies M agrees) (i.completions M agrees s)
          (step_completes g.W.Work.meaning _ _ _ s _ _ _ refl (answers _ before) c.make-reply.ensures.counts before (state _ before)));
    }

pub returns-clause-tries : goal.returns-clause-tries
returns-clause-tries g c =
    let none : into_iter_items c.loop-step.step-iterator ≡ [] = nil_from_length _ (sym c.loop-step.invariant.count ∙ c.in-None.ensures.steps.0) in
    let all = all_yielded c.args.steps.items c.loop-step.yielded _ c.loop-step.invariant.split none in
    record {
      replies = λ M agrees. rw all (c.loop-step.invariant.replies M agrees);
      state = λ M agrees. rw all (c.loop-step.invariant.state M agrees);
      on_time = λ M agrees.
          on_time_grown g.W.Work.meaning M c.args.steps.items c.loop-step.replies.items (admitted_by g.W.Work.meaning c.self.view_is c.self.invariant agrees);
      paced = λ M agrees.
          paced_grown g.W.Work.meaning M c.args.steps.items c.loop-step.replies.items (admitted_by g.W.Work.meaning c.self.view_is c.self.invariant agrees);
      count = c.loop-step.invariant.servers;
      budgets = c.loop-step.invariant.budgets;
    }

pub returns-clause-completions : goal.returns-clause-completions
returns-clause-completions g c = λ M agrees s.
    let none : into_iter_items c.loop-step.step-iterator ≡ [] = nil_from_length _ (sym c.loop-step.invariant.count ∙ c.in-None.ensures.steps.0) in
    rw (all_yielded c.args.steps.items c.loop-step.yielded _ c.loop-step.invariant.split none) (c.loop-step.invariant.completions M agrees s)

pub returns-clause-closes : goal.returns-clause-closes
returns-clause-closes g c = λ M agrees s.
    NoneAfterClose-all g.W.Work.meaning M c.args.steps.items c.loop-step.replies.items s _ ((returns-clause-tries g c).replies M agrees) (λ closed. closed)

pub returns-clause-punctual : goal.returns-clause-punctual
returns-clause-punctual g c = core_punctual g.W.Work.meaning c.self-2.view_is c.self-2.invariant
