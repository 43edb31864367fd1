use Rattle.std.proofs.Common.{arith}
use Rattle.std.proofs.lemmas.Grind.{common_steps}
use Rattle.cbsrun_svg.specs.Pictures.{words_text}
use Rattle.cbsrun_svg.proofs.picture.append_words.Goals as goal

pub returns : goal.returns
unfolding words_text
returns c = grind (arith, common_steps)
