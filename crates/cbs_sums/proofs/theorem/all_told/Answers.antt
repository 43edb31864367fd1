use Rattle.cbs_sums.proofs.Told.{tape_told, text_told}
use Rattle.cbs_sums.proofs.theorem.all_told.Goals as goal

pub returns-clause-text : goal.returns-clause-text
returns-clause-text c front back content rest byte other = text_told front byte other back content rest

pub returns-clause-tape : goal.returns-clause-tape
returns-clause-tape c before contents front back rest byte other = tape_told before contents front byte other back rest
