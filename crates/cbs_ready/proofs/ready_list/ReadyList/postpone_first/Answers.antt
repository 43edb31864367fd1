use Rattle.std.proofs.Common.{arith, rules}
use Rattle.std.proofs.lemmas.Grind.{common_steps}
use Rattle.cbs_ready.proofs.ready_list.ReadyList.postpone_first.Goals as goal

pub invariant_of-self : goal.invariant_of-self
invariant_of-self g c = grind (arith, common_steps)

pub move_first-requires-clause-first : goal.move_first-requires-clause-first
move_first-requires-clause-first g c = search rules

pub returns-then-len-eq1-clause-ordered : goal.returns-then-len-eq1-clause-ordered
returns-then-len-eq1-clause-ordered g c = grind (arith, common_steps)

pub returns-else-len-eq1-clause-others : goal.returns-else-len-eq1-clause-others
returns-else-len-eq1-clause-others g c = search rules
