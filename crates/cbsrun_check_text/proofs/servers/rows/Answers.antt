use Rattle.std.proofs.Common.{arith, string_bytes}
use Rattle.std.proofs.lemmas.Grind.{common_steps}
use Rattle.std.specs.Prelude.{map}
use Rattle.cbsrun_check_text.specs.Tables.{servers_heading, row_at, servers_table}
use Rattle.cbsrun_check_text.proofs.Rows.{headed_more}
use Rattle.cbsrun_check_text.proofs.servers.rows.Goals as goal

pub loop-server-preserved : goal.loop-server-preserved
loop-server-preserved c =
    let row = row_at c.args.tick (map string_bytes c.args.names.now) c.args.modes.now c.args.plan.now.rates c.args.budgets.now in
    rw c.in_ok-push-2.ensures.items
    (headed_more (λ r. r.items) row servers_heading c.loop-server.rows.items c.in_ok-row_at.field-0 c.loop-server.server c.loop-server.invariant c.in_ok-row_at.ensures)

pub returns : goal.returns
unfolding servers_table
returns c = grind (arith, common_steps)

pub loop-server-init : goal.loop-server-init
loop-server-init c = grind (arith, common_steps)
