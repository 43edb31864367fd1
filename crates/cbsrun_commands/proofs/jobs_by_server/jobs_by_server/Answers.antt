use Rattle.std.proofs.Common.{◌≡◌, [], ◌++◌, ◌∙◌, sym, ap, length, map, arith, rules}
use Rattle.std.proofs.lemmas.List.{append-nil, length-map, nil_from_length}
use Rattle.std.proofs.lemmas.List.Elements.{All-tail}
use Rattle.std.proofs.lemmas.List.FromFn.{fill_by_all}
use Rattle.std.specs.Vec.Iter.{into_iter_items}
use Rattle.cbsrun_commands.specs.ResultLines.{jobs_for, listed}
use Rattle.cbsrun_tasks.specs.TaskFiles.{IsFileStep}
use Rattle.cbsrun_commands.proofs.JobLists.{none_listed, lists_on}
use Rattle.cbsrun_commands.proofs.jobs_by_server.jobs_by_server.Goals as goal

pub loop-step-init : goal.loop-step-init
loop-step-init c =
    let steps : into_iter_items c.into_iter-step-iterator.result ≡ c.args.steps.items = c.into_iter-step-iterator.ensures.into_iter_gives.0 in
    let none = none_listed (map (λ jobs. jobs.items) c.in_ok-lists.lists.items) c.args.servers c.in_ok-lists.ensures in
    record {
      can = tt;
      finite = tt;
      count = search rules;
      named = rw steps c.requires;
      lists = sym (length-map c.in_ok-lists.lists.items (λ jobs. jobs.items)) ∙ none.0;
      so_far = λ s. rw (none.1 s) (ap (jobs_for s) steps);
    }

pub loop-step-preserved : goal.loop-step-preserved
loop-step-preserved c = record {
  can = tt;
  finite = tt;
  count = omega (arith, ap length c.in-Some.ensures.steps.0, c.in-Some.ensures.steps.1, c.loop-step.invariant.count);
  named = All-tail (IsFileStep c.args.servers) c.in-Some.step _ (rw c.in-Some.ensures.steps.0 at c.loop-step.invariant.named);
  lists = c.add_job.ensures.len ∙ c.loop-step.invariant.lists;
  so_far = λ s. lists_on s _ _ _ c.in-Some.step _ _ c.in-Some.ensures.steps.0 (c.in_ok-add_job.ensures.jobs s) (c.loop-step.invariant.so_far s);
}

pub returns : goal.returns
returns c =
    let none : into_iter_items c.loop-step.step-iterator ≡ [] = nil_from_length _ (sym c.loop-step.invariant.count ∙ c.in-None.ensures.steps.0) in
    fill_by_all (λ s. jobs_for s c.args.steps.items) (map (λ jobs. jobs.items) c.loop-step.lists.items) c.args.servers []
    (length-map c.loop-step.lists.items (λ jobs. jobs.items) ∙ c.loop-step.invariant.lists)
    (λ s lt. sym (append-nil _) ∙ (ap (λ rest. listed c.loop-step.lists.items s ++ jobs_for s rest) (sym none) ∙ c.loop-step.invariant.so_far s))
