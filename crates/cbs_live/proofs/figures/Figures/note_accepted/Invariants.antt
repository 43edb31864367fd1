use Rattle.std.proofs.Common.{ℕ, ◌≡◌, ◌<◌, ◌≤◌, ◌+◌, ◌%◌, max, get_or}
use Rattle.cbs_live.proofs.figures.Figures.note_accepted.Given as goal

abbrev pub invariant-loop-job : goal.invariant-loop-job
invariant-loop-job l = record {
  end : l.job ≤ max l.first l.accepted;
  put : (q : ℕ) → l.first ≤ q → q < l.job → get_or l.came (q % l.places) 0 ≡ l.time;
  kept : (q : ℕ) → q < l.first → l.job ≤ q + l.places → get_or l.came (q % l.places) 0 ≡ get_or l.initial.came (q % l.places) 0;
}
