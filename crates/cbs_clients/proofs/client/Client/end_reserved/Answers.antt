use Rattle.std.proofs.Common.{rules}
use Rattle.cbs_clients.proofs.client.Client.end_reserved.Goals as goal

pub returns-clause-free : goal.returns-clause-free
returns-clause-free g c = search rules
