use Rattle.std.proofs.Common.{refl}
use Rattle.cbs_embed.specs.Calls.{OnHeld, InHouse, Polls}
use Rattle.cbs_c.specs.Values.{poll_kind}
use Rattle.cbs_c.proofs.Told.{told_ok, told_err}
use Rattle.cbs_c.proofs.house.cbs_poll.Goals as goal

pub returns-in-Ok : goal.returns-in-Ok
returns-in-Ok c = told_ok (OnHeld (InHouse (Polls c.args.server))) poll_kind c.in-Ok.answer c.in-Ok.ensures c.kind_of.ensures

pub returns-in-Err : goal.returns-in-Err
returns-in-Err c = told_err (OnHeld (InHouse (Polls c.args.server))) poll_kind c.in-Err.refusal c.in-Err.ensures c.status.ensures refl
