use Rattle.std.proofs.Common.{refl}
use Rattle.cbs_embed.specs.Calls.{OnHeld, InHouse, Runs}
use Rattle.cbs_c.specs.Values.{unit_shown}
use Rattle.cbs_c.proofs.Told.{told_ok, told_err}
use Rattle.cbs_c.proofs.house.cbs_run.Goals as goal

pub returns-in-Ok : goal.returns-in-Ok
returns-in-Ok c = told_ok (OnHeld (InHouse Runs)) unit_shown c.in-Ok.unit c.in-Ok.ensures c.unit_of.ensures

pub returns-in-Err : goal.returns-in-Err
returns-in-Err c = told_err (OnHeld (InHouse Runs)) unit_shown c.in-Err.refusal c.in-Err.ensures c.status.ensures refl
