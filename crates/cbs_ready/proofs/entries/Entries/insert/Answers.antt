use Rattle.std.proofs.Common.{◌≡◌, ◌<◌, length, ◌∙◌, arith}
use Rattle.std.proofs.lemmas.Grind.{common_steps}
use Rattle.cbs_ready.proofs.Slots.{alone_again}
use Rattle.cbs_ready.proofs.entries.Entries.insert.Goals as goal

pub returns-then-self-len : goal.returns-then-self-len
returns-then-self-len g c =
    let inside = c.self.inside in
    let some : 0 < inside.first = grind (arith, common_steps) in
    let all : inside.first ≡ length inside.slots.items = grind (arith, common_steps) in
    rw (← c.self.view_is) (c.set_first.ensures ∙ alone_again inside.first inside.slots.items c.args.entry some all)

pub set_first-requires : goal.set_first-requires
set_first-requires g c = grind (arith, common_steps)

pub put-requires-clause-order : goal.put-requires-clause-order
put-requires-clause-order g c = grind (arith, common_steps)

pub returns : goal.returns
returns g c = grind (arith, common_steps)
