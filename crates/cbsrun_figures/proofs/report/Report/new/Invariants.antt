use Rattle.std.proofs.Common.{◌≡◌, [], map, take}
use Rattle.std.specs.Prelude.{All}
use Rattle.cbsrun_figures.specs.Tallies.{kept_of}
use Rattle.cbsrun_figures.proofs.report.Report.new.Given as goal

-- a tally with no step for each of the first servers, with its budget
abbrev pub invariant-loop-server : goal.invariant-loop-server
invariant-loop-server g l = record {
  budgets : map (λ k. k.budget) l.tallies.items ≡ map (λ r. r.budget) (take l.server l.plan.rates);
  empty : All (λ k. k ≡ kept_of k.budget []) l.tallies.items;
}
