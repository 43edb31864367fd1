use Rattle.std.proofs.Common.{◌≡◌, ◌<◌}
use Rattle.std.specs.Prelude.{All}
use Rattle.cbs_guarantee.proofs.Orders.{greatest_first}
use Rattle.cbs_guarantee.proofs.parts.in_order.Given as goal

-- the servers so far are in order
abbrev pub invariant-loop-server : goal.invariant-loop-server
invariant-loop-server l = record {
  order : l.order.items ≡ greatest_first l.reservations l.server;
  each : All (λ s. s < l.server) l.order.items;
}
