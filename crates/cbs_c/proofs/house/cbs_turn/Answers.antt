use Rattle.std.proofs.Common.{refl}
use Rattle.cbs_embed.specs.Calls.{OnHeld, InHouse, Turns}
use Rattle.cbs_c.specs.Values.{turn_shown}
use Rattle.cbs_c.proofs.Told.{told_ok, told_err}
use Rattle.cbs_c.proofs.house.cbs_turn.Goals as goal

pub returns-in-Ok : goal.returns-in-Ok
returns-in-Ok c = told_ok (OnHeld (InHouse Turns)) turn_shown c.in-Ok.turn c.in-Ok.ensures c.turn_of.ensures

pub returns-in-Err : goal.returns-in-Err
returns-in-Err c = told_err (OnHeld (InHouse Turns)) turn_shown c.in-Err.refusal c.in-Err.ensures c.status.ensures refl
