use Rattle.std.proofs.Common.{◌≡◌, ℕ, List, [], drop, arith}
use Rattle.std.proofs.lemmas.Grind.{common_steps}
use Rattle.std.proofs.lemmas.List.{drop_all}
use Rattle.cbs_guarantee.specs.Parts.{first_fit, servers_of}
use Rattle.cbs_guarantee.proofs.Orders.{parts_once}
use Rattle.cbs_guarantee.proofs.parts.split.Goals as goal

pub returns-clause-parts : goal.returns-clause-parts
returns-clause-parts c =
    let order : List ℕ = c.deref-server-items.result.now in
    let rates = c.args.reservations.now in
    let none : drop c.loop-server.server-index order ≡ [] = drop_all c.loop-server.server-index order c.loop-server-test.false in
    let servers : servers_of c.loop-server.parts.items ≡ first_fit c.args.bound rates order [] = rw none at c.loop-server.invariant.servers in
    let is = rw (← c.deref-server-items.ensures.value) at c.in_ok-order.ensures.order in
    record {
      order = order;
      greatest_first = is;
      servers = servers;
      each = c.loop-server.invariant.each;
      once = parts_once rates c.args.bound order (servers_of c.loop-server.parts.items) is.once servers;
    }

pub loop-server-init : goal.loop-server-init
loop-server-init c = grind (arith, common_steps)

pub loop-server-preserved : goal.loop-server-preserved
loop-server-preserved c = grind (arith, common_steps)
