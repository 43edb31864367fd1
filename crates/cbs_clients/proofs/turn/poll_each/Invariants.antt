use Rattle.std.proofs.Common.{◌≡◌, ℕ}
use Rattle.cbs_clients.specs.Houses.{results_of}
use Rattle.cbs_clients.specs.Turns.{PollsEach}
use Rattle.cbs_clients.proofs.turn.poll_each.Given as goal

abbrev pub invariant-loop-server : goal.invariant-loop-server
invariant-loop-server g l =
    record {
      polled : PollsEach g.W.Work.meaning l.server l.initial.house l.house l.took l.out_of_memory;
      results : (s : ℕ) → results_of l.house s ≡ results_of l.initial.house s;
    }
