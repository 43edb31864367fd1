use Rattle.std.proofs.Common.{ap, Some}
use Rattle.cbs_embed.proofs.opening.open_boxes.Goals as goal

pub returns-in-Ok-clause-ok : goal.returns-in-Ok-clause-ok
returns-in-Ok-clause-ok c =
    let opened = c.in_ok-house.ensures in
    let boxed = c.in-Ok.ensures in
    rw (← c.plan.ensures.value, ← c.modes.ensures.value) (record {
      house = c.in_ok-house.house;
      clients = c.in_ok-house.clients.items;
      holds = ap (λ h. Some h) boxed.house;
      hold = boxed.clients;
      new = opened.new;
      servers = opened.clients;
      unused = opened.unused;
      opened = opened.opened;
    })
