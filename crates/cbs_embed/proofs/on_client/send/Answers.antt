use Rattle.std.proofs.Common.{rules}
use Rattle.cbs_embed.proofs.on_client.send.Goals as goal

pub returns : goal.returns
returns c = search rules
