use Rattle.std.proofs.Common.{add-one}
use Rattle.cbs_core.proofs.Waiting.{keeps_next}
use Rattle.cbs_core.proofs.servers.waits_of.Goals as goal

pub loop-it-preserved : goal.loop-it-preserved
loop-it-preserved c = rw (add-one c.loop-it.it-index) (keeps_next c.loop-it.waits c.note.new.self c.args.servers.now c.loop-it.it-index
    c.it-item.result c.loop-it.invariant c.loop-it-test.true c.it-item.is c.note.ensures)
