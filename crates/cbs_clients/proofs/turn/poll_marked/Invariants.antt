use Rattle.std.proofs.Common.{ℕ, ◌≡◌, ◌≤◌, ◌-◌, length}
use Rattle.cbs_clients.specs.Houses.{core_of, results_of}
use Rattle.cbs_clients.specs.Turns.{PollsEach}
use Rattle.cbs_clients.proofs.turn.poll_marked.Given as goal

abbrev pub invariant-loop-server : goal.invariant-loop-server
invariant-loop-server g l =
    record {
      polled : PollsEach g.W.Work.meaning l.next l.fn.house l.house l.took l.out_of_memory;
      within : l.next ≤ length (core_of l.fn.house).faces;
      results : (s : ℕ) → results_of l.house s ≡ results_of l.fn.house s;
    }

abbrev pub decreases-loop-server : goal.decreases-loop-server
decreases-loop-server g l = length (core_of l.fn.house).faces - l.next
