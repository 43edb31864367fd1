use Rattle.std.proofs.Common.{refl}
use Rattle.cbs_embed.specs.Calls.{OnHeld, InHouse, ShowsCharges}
use Rattle.cbs_c.proofs.Told.{told_ok, told_err}
use Rattle.cbs_c.proofs.house.cbs_charges.Goals as goal

pub returns-in-Ok : goal.returns-in-Ok
returns-in-Ok c =
    record {
      total = told_ok (OnHeld (InHouse (ShowsCharges c.args.server))) (λ charges. charges.total) c.in-Ok.charges c.in-Ok.ensures refl;
      most = told_ok (OnHeld (InHouse (ShowsCharges c.args.server))) (λ charges. charges.most) c.in-Ok.charges c.in-Ok.ensures refl;
    }

pub returns-in-Err : goal.returns-in-Err
returns-in-Err c =
    record {
      total = told_err (OnHeld (InHouse (ShowsCharges c.args.server))) (λ charges. charges.total) c.in-Err.refusal c.in-Err.ensures c.status.ensures refl;
      most = told_err (OnHeld (InHouse (ShowsCharges c.args.server))) (λ charges. charges.most) c.in-Err.refusal c.in-Err.ensures c.status.ensures refl;
    }
