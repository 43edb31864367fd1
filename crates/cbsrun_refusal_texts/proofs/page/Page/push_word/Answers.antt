use Rattle.std.proofs.Common.{arith}
use Rattle.std.proofs.lemmas.Grind.{common_steps}
use Rattle.cbsrun_refusal_texts.proofs.page.Page.push_word.Goals as goal

pub returns : goal.returns
returns c = grind (arith, common_steps)
