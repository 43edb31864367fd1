use Rattle.cbs_tape.proofs.Written.{joins}
use Rattle.cbs_tape.proofs.theorem.all_pieces.Goals as goal

pub returns : goal.returns
returns c = joins
