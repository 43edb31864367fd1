use Rattle.std.proofs.Common.{max, refl}
use Rattle.cbs_pace.specs.Units.{rounding_of}
use Rattle.cbs_embed.specs.Calls.{OnHeld, InHouse}
use Rattle.cbs_embed.specs.Paces.{BeginsPace}
use Rattle.cbs_c.proofs.Told.{told_ok, told_err}
use Rattle.cbs_c.proofs.pace.cbs_pace.Goals as goal

pub returns-in-Ok : goal.returns-in-Ok
returns-in-Ok c = told_ok (OnHeld (InHouse (BeginsPace (max c.args.tick 1) (rounding_of c.args.carry) c.args.time))) (λ p. p) c.in-Ok.begun
    (rw (← c.at_least_one.ensures, ← c.of.ensures) c.in-Ok.ensures) refl

pub returns-in-Err : goal.returns-in-Err
returns-in-Err c = told_err (OnHeld (InHouse (BeginsPace (max c.args.tick 1) (rounding_of c.args.carry) c.args.time))) (λ p. p) c.in-Err.refusal
    (rw (← c.at_least_one.ensures, ← c.of.ensures) c.in-Err.ensures) c.status.ensures refl
