use Rattle.std.proofs.Common.{ap, arith, length, string_bytes}
use Rattle.cbsrun_chart.specs.declared.picture.Drawn.{Drawn}
use Rattle.cbsrun_timeline.proofs.Widths.{width_next}
use Rattle.cbsrun_timeline.proofs.grid.width_of.Goals as goal

pub loop-server-preserved : goal.loop-server-preserved
loop-server-preserved c =
    let server = c.server-item.result in
    let same = ap (λ (d : Drawn). length (string_bytes d.name)) c.server-item.is in
    let more = width_next c.args.servers.now c.loop-server.server-index server c.loop-server-test.true in
    omega (arith, same, more)
