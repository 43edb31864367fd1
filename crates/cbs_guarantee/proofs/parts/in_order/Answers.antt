use Rattle.std.proofs.Common.{◌≡◌, length, arith}
use Rattle.std.proofs.lemmas.Grind.{common_steps, elements}
use Rattle.cbs_guarantee.proofs.Orders.{order_is}
use Rattle.cbs_guarantee.proofs.parts.in_order.Goals as goal

pub returns-clause-order : goal.returns-clause-order
returns-clause-order c =
    let e : c.loop-server.server ≡ length c.args.reservations.now = omega arith in
    order_is c.args.reservations.now c.loop-server.order.items (rw e at c.loop-server.invariant.order)

pub loop-server-init : goal.loop-server-init
loop-server-init c = grind (arith, common_steps)

pub returns-clause-each : goal.returns-clause-each
returns-clause-each c = grind (arith, common_steps)

pub loop-server-preserved : goal.loop-server-preserved
loop-server-preserved c = record {
  order = grind (arith, common_steps);
  each = grind (arith, elements);
}

pub place_of-place-requires-clause-each : goal.place_of-place-requires-clause-each
place_of-place-requires-clause-each c = grind (arith, elements)
