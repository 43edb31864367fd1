use Rattle.std.proofs.Common.{string_bytes}
use Rattle.std.specs.Prelude.{map}
use Rattle.cbsrun_sweep_texts.specs.Tables.{row_at, sweep_heading}
use Rattle.cbsrun_sweep_texts.proofs.Headed.{one_row_more}
use Rattle.cbsrun_sweep_texts.proofs.rows.rows.Goals as goal

pub loop-server-preserved : goal.loop-server-preserved
loop-server-preserved c =
    rw c.in_ok-push-2.ensures.items
    (one_row_more (λ r. r.items) (row_at c.args.tick (map string_bytes c.args.names.now) c.args.sweeps.now) sweep_heading c.loop-server.rows.items
    c.in_ok-row_at.field-0 c.loop-server.server c.loop-server.invariant c.in_ok-row_at.ensures)
