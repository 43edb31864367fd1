use Rattle.std.proofs.Common.{refl}
use Rattle.cbs_embed.specs.Calls.{OnHeld, InHouse, Spans}
use Rattle.cbs_c.specs.Values.{span_shown}
use Rattle.cbs_c.proofs.Told.{told_ok, told_err}
use Rattle.cbs_c.proofs.house.cbs_idle_span.Goals as goal

pub returns-in-Ok : goal.returns-in-Ok
returns-in-Ok c = told_ok (OnHeld (InHouse Spans)) span_shown c.in-Ok.span c.in-Ok.ensures c.unwrap_or.ensures

pub returns-in-Err : goal.returns-in-Err
returns-in-Err c = told_err (OnHeld (InHouse Spans)) span_shown c.in-Err.refusal c.in-Err.ensures c.status.ensures refl
