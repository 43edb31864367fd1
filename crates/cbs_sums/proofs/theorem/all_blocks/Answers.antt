use Rattle.cbs_sums.proofs.Written.{all_again}
use Rattle.cbs_sums.proofs.theorem.all_blocks.Goals as goal

pub returns : goal.returns
returns c = all_again
