use Rattle.cbs_tape.proofs.Fronts.{has_all, adds_first, lost_all}
use Rattle.cbs_tape.proofs.theorem.all_fronts.Goals as goal

pub returns-clause-whole : goal.returns-clause-whole
returns-clause-whole c = has_all

pub returns-clause-first : goal.returns-clause-first
returns-clause-first c = adds_first

pub returns-clause-lost : goal.returns-clause-lost
returns-clause-lost c = lost_all
