use Rattle.std.proofs.Common.{◌∙◌, subst, sym}
use Rattle.std.proofs.lemmas.Result.{err_from_is_err_and}
use Rattle.cbsrun_lines.proofs.Writers.{untouched}
use Rattle.cbsrun_lines.specs.Writers.{IsUntouched}
use Rattle.cbsrun_sized.specs.Sized.{IsSized}
use Rattle.cbsrun_commands.proofs.Endings.{stops_as}
use Rattle.cbsrun_commands.proofs.size.size.Goals as goal

pub returns-in_err-sketch : goal.returns-in_err-sketch
returns-in_err-sketch g c =
    let p = err_from_is_err_and c.from_residual.result c.from_residual.ensures.1 in
    rw (p.1, p.2) (c.in_err-sketch.ensures, untouched _)

pub returns-in-Err : goal.returns-in-Err
returns-in-Err g c = (c.in_ok-sketch.sketch, c.in_ok-sketch.ensures, (c.in-Err.why, c.in-Err.ensures.err), untouched _)

pub returns-in_err-print : goal.returns-in_err-print
returns-in_err-print g c =
    let p = err_from_is_err_and c.from_residual-in_err-print.result c.from_residual-in_err-print.ensures.1 in
    rw (p.1, p.2) (
      c.in_ok-sketch.sketch,
      c.in_ok-sketch.ensures,
      stops_as _ _ (λ t e. subst (IsSized c.in_ok-sketch.sketch c.args.all) (sym (e ∙ c.deref.ensures)) c.in-Ok.ensures.ok) IsUntouched _ _ _
          c.in_err-print.ensures,
    )

pub returns : goal.returns
returns g c =
    let p = c.in_ok-print.ensures in (
      c.in_ok-sketch.sketch,
      p.0,
      c.in_ok-sketch.ensures,
      subst (IsSized c.in_ok-sketch.sketch c.args.all) (sym (p.1 ∙ c.deref.ensures)) c.in-Ok.ensures.ok,
      p.2,
    )
