use Rattle.std.proofs.Common.{rules}
use Rattle.cbs_house.proofs.round.both_sides.Goals as goal

pub returns-clause-few : goal.returns-clause-few
returns-clause-few g c = search rules
