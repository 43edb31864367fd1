use Rattle.std.proofs.Common.{rules}
use Rattle.cbs_clients.proofs.client.Client.send.Goals as goal

pub returns : goal.returns
returns g c = search rules
