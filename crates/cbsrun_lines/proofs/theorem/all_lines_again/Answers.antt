use Rattle.cbsrun_lines.proofs.LinesAgain.{lines_again}
use Rattle.cbsrun_lines.proofs.theorem.all_lines_again.Goals as goal

pub returns : goal.returns
returns c = lines_again
