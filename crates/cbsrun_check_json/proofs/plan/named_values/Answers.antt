use Rattle.std.proofs.Common.{map, string_bytes}
use Rattle.serde_json.specs.View.{view}
use Rattle.cbsrun_check_json.specs.Json.{named_at}
use Rattle.cbsrun_json.proofs.Listed.{mapped_more}
use Rattle.cbsrun_check_json.proofs.plan.named_values.Goals as goal

pub loop-server-preserved : goal.loop-server-preserved
loop-server-preserved c =
    rw c.in_ok-push.ensures.items
    (mapped_more view (named_at (map string_bytes c.args.names.now) c.args.modes.now c.args.plan.now c.args.budgets.now) c.loop-server.values.items c.in_ok-named_at.field-0
    c.loop-server.server c.loop-server.invariant c.in_ok-named_at.ensures)
