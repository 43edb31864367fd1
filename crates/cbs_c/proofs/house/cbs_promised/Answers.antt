use Rattle.std.proofs.Common.{refl, ap, ◌∙◌, ◌%◌, ◌/◌, ◌^◌}
use Rattle.cbs_embed.specs.Calls.{OnHeld, InHouse, Promises}
use Rattle.cbs_c.specs.Values.{promise_low, promise_high}
use Rattle.cbs_c.proofs.Told.{told_ok, told_err}
use Rattle.cbs_c.proofs.house.cbs_promised.Goals as goal

pub returns-in-Ok : goal.returns-in-Ok
returns-in-Ok c =
    let tick = c.unwrap_or-tick.ensures in
    record {
      lower = told_ok (OnHeld (InHouse (Promises c.args.server))) promise_low c.in-Ok.tick c.in-Ok.ensures (c.low.ensures ∙ ap (λ t. t % 2 ^ 64) tick);
      upper = told_ok (OnHeld (InHouse (Promises c.args.server))) promise_high c.in-Ok.tick c.in-Ok.ensures (c.high.ensures ∙ ap (λ t. t / 2 ^ 64) tick);
    }

pub returns-in-Err : goal.returns-in-Err
returns-in-Err c =
    record {
      lower = told_err (OnHeld (InHouse (Promises c.args.server))) promise_low c.in-Err.refusal c.in-Err.ensures c.status.ensures refl;
      upper = told_err (OnHeld (InHouse (Promises c.args.server))) promise_high c.in-Err.refusal c.in-Err.ensures c.status.ensures refl;
    }
