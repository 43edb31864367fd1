use Rattle.std.proofs.Common.{sym, ◌∙◌}
use Rattle.toml.specs.View.{view, table_view}
use Rattle.cbsrun_faults.proofs.Refusals.{refused_among}
use Rattle.cbsrun_faults.proofs.refused.refused_in.Goals as goal

pub returns : goal.returns
returns c =
    let here = c.in-Some.ensures.lookup in
    refused_among view (table_view c.args.top.now) c.tick_in-tick.result c.args.servers.now c.args.number c.in-Some.entry.now c.in-Ok-bound_at.bound c.in-Ok.reservation
    c.refused_after.result here.3.0 here.1 c.tick_in-tick.ensures (sym c.bound_at.ensures ∙ c.in-Ok-bound_at.is) (sym c.reservation_of.ensures ∙ c.in-Ok.is)
    c.refused_after.ensures.refused c.refused_after.ensures.named
