use Rattle.std.proofs.Common.{arith}
use Rattle.std.proofs.lemmas.Grind.{common_steps}
use Rattle.cbsrun_check_text.specs.Checks.{plan_text}
use Rattle.cbsrun_check_text.proofs.check.append_plan.Goals as goal

pub returns : goal.returns
unfolding plan_text
returns c = grind (arith, common_steps)
