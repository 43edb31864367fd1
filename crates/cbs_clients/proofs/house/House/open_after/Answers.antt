use Rattle.std.proofs.Common.{rules}
use Rattle.cbs_clients.proofs.house.House.open_after.Goals as goal

pub returns-then-took-eq0-clause-few : goal.returns-then-took-eq0-clause-few
returns-then-took-eq0-clause-few g c = search rules

pub returns-clause-few : goal.returns-clause-few
returns-clause-few g c = search rules
