use Rattle.std.proofs.Common.{◌<◌, length, arith, rules}
use Rattle.std.proofs.lemmas.Grind.{common_steps}
use Rattle.cbs_clients.proofs.OpenServers.{counted_open, counted_closed}
use Rattle.cbs_clients.proofs.house.House.open_servers.Goals as goal
use Rattle.cbs_clients.proofs.house.House.open_servers.Goals.{then-not-is_closed, else-not-is_closed}

pub loop-server-preserved : goal.loop-server-preserved
loop-server-preserved g c =
    let l = c.loop-server in
    let core = c.args.self.now.core in
    let before = l.invariant in
    let within : l.server < length core.faces = omega (arith, c.loop-server-test.true, c.servers-server-end.ensures.value) in
    elim c.if-not-is_closed.branch [
      | then-not-is_closed w ↦ let n = counted_open core l.server c.is_closed.result c.is_closed.ensures within (search rules) in let e =
          w.open-is in omega (arith, n, e, before)
      | else-not-is_closed w ↦ let n = counted_closed core l.server c.is_closed.result c.is_closed.ensures within (search rules) in let e =
          w.open-is in omega (arith, n, e, before)
    ]

pub returns-clause-count : goal.returns-clause-count
returns-clause-count g c = grind (arith, common_steps)

pub returns-clause-few : goal.returns-clause-few
returns-clause-few g c = grind (arith, common_steps)
