use Rattle.std.proofs.Common.{append-nil, refl}
use Rattle.cbsrun_other_faults.proofs.Told.{told_more, same_page}
use Rattle.cbsrun_other_faults.proofs.others.append_each.Goals as goal

pub loop-fault-preserved : goal.loop-fault-preserved
loop-fault-preserved c =
    told_more c.loop-fault.fault-index c.args.page.now c.loop-fault.page c.accept.new.self c.push_all.new.self _ c.as_str.result.now c.loop-fault.invariant
    (same_page c.explain_in-text.result c.accept.result c.in-Some.text c.loop-fault.page c.accept.new.self c.accept.ensures c.in-Some.is) c.push_all.ensures
    (rw (append-nil c.as_str.result.now) refl)
