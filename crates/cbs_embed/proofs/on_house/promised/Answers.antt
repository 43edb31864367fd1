use Rattle.std.proofs.Common.{refl, rules}
use Rattle.cbs_embed.proofs.on_house.promised.Goals as goal

pub returns-then-server-servers : goal.returns-then-server-servers
returns-then-server-servers c = (refl, search rules, refl)

pub returns : goal.returns
returns c = (search rules, refl, c.promised.ensures)
