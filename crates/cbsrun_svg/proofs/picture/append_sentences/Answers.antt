use Rattle.std.proofs.Common.{arith}
use Rattle.std.proofs.lemmas.Grind.{common_steps}
use Rattle.cbsrun_svg.specs.Pictures.{sentences_text}
use Rattle.cbsrun_svg.proofs.picture.append_sentences.Goals as goal

pub returns : goal.returns
unfolding sentences_text
returns c = grind (arith, common_steps)

pub loop-server-preserved : goal.loop-server-preserved
unfolding sentences_text
loop-server-preserved c = grind (arith, common_steps)
