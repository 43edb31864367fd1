use Rattle.std.proofs.Common.{rules}
use Rattle.cbs_clients.proofs.open.open_house.Goals as goal

pub returns-clause-refusal : goal.returns-clause-refusal
returns-clause-refusal g c = search rules
