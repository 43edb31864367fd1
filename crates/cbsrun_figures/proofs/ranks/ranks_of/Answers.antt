use Rattle.std.proofs.lemmas.List.Sorted.{IsNonDecreasingBy-from_sort}
use Rattle.cbsrun_figures.proofs.Ranking.{same_matches}
use Rattle.cbsrun_figures.proofs.ranks.ranks_of.Goals as goal

pub ranks_in-requires : goal.ranks_in-requires
ranks_in-requires g c =
    rw c.deref.ensures.value (IsNonDecreasingBy-from_sort (λ n. n) c.sort_unstable.new.self.items c.sort_unstable.ensures.sorted)

pub returns-clause-ranks : goal.returns-clause-ranks
returns-clause-ranks g c =
    same_matches c.args.numbers.now.items c.sort_unstable.new.self.items _ c.sort_unstable.ensures.permutation (rw (← c.deref.ensures.value) c.ranks_in.ensures)
