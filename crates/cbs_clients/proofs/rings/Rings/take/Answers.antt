use Rattle.std.proofs.Common.{rules}
use Rattle.cbs_clients.proofs.rings.Rings.take.Goals as goal

pub returns-clause-others : goal.returns-clause-others
returns-clause-others g c = search rules
