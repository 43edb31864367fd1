use Rattle.cbsrun_sizing.specs.Budgets.{AreGreatest}
use Rattle.cbsrun_sizing.proofs.budgets.greatest_budgets.Given as goal

abbrev pub invariant-loop-server : goal.invariant-loop-server
invariant-loop-server l = AreGreatest l.plan l.server l.budgets.items
