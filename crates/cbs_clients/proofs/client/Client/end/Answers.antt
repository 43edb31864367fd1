use Rattle.std.proofs.Common.{rules}
use Rattle.cbs_clients.proofs.client.Client.end.Goals as goal

pub end_reserved-requires-clause-slot : goal.end_reserved-requires-clause-slot
end_reserved-requires-clause-slot g c = search rules
