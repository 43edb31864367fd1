use Rattle.std.proofs.Common.{refl, min}
use Rattle.cbs_pace.specs.Paces.{time_to}
use Rattle.cbs_embed.specs.Calls.{OnHeld, InHouse}
use Rattle.cbs_embed.specs.Paces.{Asks}
use Rattle.cbs_c.specs.Paces.{next_shown}
use Rattle.cbs_c.proofs.Told.{told_ok, told_err}
use Rattle.cbs_c.proofs.pace.cbs_next_measured.Goals as goal

pub returns-in-Ok : goal.returns-in-Ok
returns-in-Ok c = told_ok (OnHeld (InHouse (Asks c.args.time (min c.args.took (time_to c.args.time c.args.pacer.now.pace)) c.args.pacer.now c.next_measured.new.pacer))) next_shown c.in-Ok.asked
    c.in-Ok.ensures.next c.next_of.ensures

pub returns-in-Err : goal.returns-in-Err
returns-in-Err c = told_err (OnHeld (InHouse (Asks c.args.time (min c.args.took (time_to c.args.time c.args.pacer.now.pace)) c.args.pacer.now c.next_measured.new.pacer))) next_shown c.in-Err.refusal
    c.in-Err.ensures.next c.status.ensures refl
