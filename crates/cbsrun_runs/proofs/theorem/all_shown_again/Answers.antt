use Rattle.cbsrun_runs.proofs.ShownAgain.{shown_again}
use Rattle.cbsrun_runs.proofs.theorem.all_shown_again.Goals as goal

pub returns : goal.returns
returns c = shown_again
