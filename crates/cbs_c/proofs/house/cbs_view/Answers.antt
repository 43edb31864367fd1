use Rattle.std.proofs.Common.{refl}
use Rattle.cbs_embed.specs.Calls.{OnHeld, InHouse, Shows}
use Rattle.cbs_c.specs.Values.{view_shown}
use Rattle.cbs_c.proofs.Told.{told_ok, told_err}
use Rattle.cbs_c.proofs.house.cbs_view.Goals as goal

pub returns-in-Ok : goal.returns-in-Ok
returns-in-Ok c = told_ok (OnHeld (InHouse (Shows c.args.server))) view_shown c.in-Ok.view c.in-Ok.ensures c.view_of.ensures

pub returns-in-Err : goal.returns-in-Err
returns-in-Err c = told_err (OnHeld (InHouse (Shows c.args.server))) view_shown c.in-Err.refusal c.in-Err.ensures c.status.ensures refl
