use Rattle.std.proofs.Common.{◌≡◌, ℕ, ◌+◌, ◌++◌, ◌≤◌, length, vec_len, vec_capacity}
use Rattle.std.specs.Vec.Iter.{into_iter_items, into_iter_len}
use Rattle.cbs_steps.specs.History.{History}
use Rattle.cbs_core.specs.Agreement.{Agrees}
use Rattle.cbs_steps.specs.Replies.{AnswersAll, grown_by}
use Rattle.cbs_steps.specs.Laws.{account_in, completions_of, Completes}
use Rattle.cbs_core.specs.Held.{KeepsBudgets}
use Rattle.cbs_core.proofs.executor.Core.run_steps.Given as goal

abbrev pub invariant-loop-step : goal.invariant-loop-step
invariant-loop-step g l = record {
  can : (goal.iterator-loop-step g).can_next l.step-iterator;
  finite : (goal.iterator-loop-step g).is_finite l.step-iterator;
  count : into_iter_len l.step-iterator ≡ length (into_iter_items l.step-iterator);
  split : l.fn.steps.items ≡ l.yielded ++ into_iter_items l.step-iterator;
  servers : length l.self.faces ≡ length l.fn.self.faces;
  budgets : KeepsBudgets l.self;
  room : vec_len l.replies + into_iter_len l.step-iterator ≤ vec_capacity l.replies;
  replies : (M : History g.row.W.Denot) → Agrees g.W.Work.meaning l.fn.self M → AnswersAll g.W.Work.meaning M l.yielded l.replies.items;
  state : (M : History g.row.W.Denot) → Agrees g.W.Work.meaning l.fn.self M → Agrees g.W.Work.meaning l.self (grown_by M l.yielded l.replies.items);
  completions : (M : History g.row.W.Denot) → Agrees g.W.Work.meaning l.fn.self M → (s : ℕ)
      → Completes g.W.Work.meaning (account_in g.W.Work.meaning M s) (account_in g.W.Work.meaning (grown_by M l.yielded l.replies.items) s)
      (completions_of s l.replies.items);
}
