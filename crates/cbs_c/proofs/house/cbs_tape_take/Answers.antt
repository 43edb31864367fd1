use Rattle.std.proofs.Common.{refl}
use Rattle.cbs_embed.specs.Calls.{OnHeld, InHouse, HandsOutTape}
use Rattle.cbs_c.proofs.Told.{told_ok, told_err}
use Rattle.cbs_c.proofs.house.cbs_tape_take.Goals as goal

pub returns-in-Ok : goal.returns-in-Ok
returns-in-Ok c = told_ok (OnHeld (InHouse (HandsOutTape c.args.out.now c.take_tape.new.out))) (λ n. n) c.in-Ok.taken c.in-Ok.ensures.taken refl

pub returns-in-Err : goal.returns-in-Err
returns-in-Err c = told_err (OnHeld (InHouse (HandsOutTape c.args.out.now c.take_tape.new.out))) (λ n. n) c.in-Err.refusal c.in-Err.ensures.taken c.status.ensures refl
