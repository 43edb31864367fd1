use Rattle.std.proofs.Common.{refl}
use Rattle.cbs_embed.specs.Calls.{OnHeld, InHouse, TellsLost}
use Rattle.cbs_c.proofs.Told.{told_ok, told_err}
use Rattle.cbs_c.proofs.house.cbs_tape_lost.Goals as goal

pub returns-in-Ok : goal.returns-in-Ok
returns-in-Ok c = told_ok (OnHeld (InHouse TellsLost)) (λ l. l) c.in-Ok.answer c.in-Ok.ensures refl

pub returns-in-Err : goal.returns-in-Err
returns-in-Err c = told_err (OnHeld (InHouse TellsLost)) (λ l. l) c.in-Err.refusal c.in-Err.ensures c.status.ensures refl
