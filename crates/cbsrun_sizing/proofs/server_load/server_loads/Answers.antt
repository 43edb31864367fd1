use Rattle.cbsrun_sizing.proofs.Greatest.{loads_more}
use Rattle.cbsrun_sizing.proofs.server_load.server_loads.Goals as goal

pub loop-server-preserved : goal.loop-server-preserved
loop-server-preserved c = rw c.in_ok-push.ensures.items
    (loads_more c.args.load.now c.loop-server.server c.loop-server.loads.items c.in_ok-server_load.field-0 c.loop-server.invariant c.in_ok-server_load.ensures)
