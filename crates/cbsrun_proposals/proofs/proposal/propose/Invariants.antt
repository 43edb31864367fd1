use Rattle.std.proofs.Common.{take}
use Rattle.cbsrun_proposals.specs.Proposals.{budgets_of, IsBestOf}
use Rattle.cbsrun_proposals.proofs.proposal.propose.Given as goal

abbrev pub invariant-loop-source : goal.invariant-loop-source
invariant-loop-source l = IsBestOf l.sources l.wanted (budgets_of (take l.source-index l.sources)) l.best
