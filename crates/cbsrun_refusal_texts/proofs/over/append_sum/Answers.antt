use Rattle.std.proofs.Common.{arith}
use Rattle.std.proofs.lemmas.Grind.{common_steps}
use Rattle.cbsrun_refusal_texts.proofs.over.append_sum.Goals as goal

pub returns : goal.returns
returns c = grind (arith, common_steps)
