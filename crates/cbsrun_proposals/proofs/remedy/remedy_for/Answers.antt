use Rattle.std.proofs.Common.{arith}
use Rattle.std.proofs.lemmas.Grind.{common_steps}
use Rattle.cbsrun_proposals.proofs.remedy.remedy_for.Goals as goal

pub returns : goal.returns
returns c = record {
  needed = c.is_enough.ensures.no c.if-is_enough.false;
  backlog = c.greater_backlog.ensures;
  reservation = rw c.proposal_of.ensures c.propose.ensures;
  delayed = c.delayed_longer.ensures;
  hopeless = grind (arith, common_steps);
}
