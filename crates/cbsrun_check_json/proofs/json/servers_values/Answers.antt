use Rattle.serde_json.specs.View.{view}
use Rattle.cbsrun_check_json.specs.Json.{server_at}
use Rattle.cbsrun_json.proofs.Listed.{mapped_more}
use Rattle.cbsrun_check_json.proofs.json.servers_values.Goals as goal

pub loop-server-preserved : goal.loop-server-preserved
loop-server-preserved c =
    rw c.in_ok-push.ensures.items
    (mapped_more view (server_at c.args.load.now c.args.budgets.now c.args.loads.now) c.loop-server.values.items c.in_ok-server_at.field-0
    c.loop-server.server c.loop-server.invariant c.in_ok-server_at.ensures)
