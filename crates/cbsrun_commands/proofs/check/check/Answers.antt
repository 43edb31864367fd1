use Rattle.std.proofs.Common.{◌∙◌, subst, sym, List, ℕ}
use Rattle.std.proofs.lemmas.Result.{err_from_is_err_and}
use Rattle.cbsrun_lines.proofs.Writers.{untouched}
use Rattle.cbsrun_lines.specs.Writers.{IsUntouched}
use Rattle.cbsrun_commands.specs.Outputs.{IsCheckIn}
use Rattle.cbsrun_commands.proofs.Endings.{stops_as}
use Rattle.cbsrun_commands.proofs.check.check.Goals as goal

pub returns-in_err-file-clause-printed : goal.returns-in_err-file-clause-printed
returns-in_err-file-clause-printed g c =
    let p = err_from_is_err_and c.from_residual.result c.from_residual.ensures.1 in
    rw (p.1, p.2) (c.in_err-file.ensures, untouched _)

pub returns-in_err-text-clause-printed : goal.returns-in_err-text-clause-printed
returns-in_err-text-clause-printed g c =
    let p = err_from_is_err_and c.from_residual-in_err-text.result c.from_residual-in_err-text.ensures.1 in
    rw (p.1, p.2) (c.in_ok-file.file, c.in_ok-file.ensures, untouched _)

pub returns-in_err-promised-clause-printed : goal.returns-in_err-promised-clause-printed
returns-in_err-promised-clause-printed g c =
    let p = err_from_is_err_and c.from_residual-in_err-promised.result c.from_residual-in_err-promised.ensures.1 in
    rw (p.1, p.2) (c.in_ok-file.file, c.in_ok-file.ensures, untouched _)

pub returns-in_err-print-clause-printed : goal.returns-in_err-print-clause-printed
returns-in_err-print-clause-printed g c =
    let p = err_from_is_err_and c.from_residual-in_err-print.result c.from_residual-in_err-print.ensures.1 in
    rw (p.1, p.2) (
      c.in_ok-file.file,
      c.in_ok-file.ensures,
      stops_as _ _ (λ t e. subst (λ (x : List ℕ). IsCheckIn c.args.form c.args.name.now c.in_ok-file.file x) (sym (e ∙ c.deref.ensures)) c.in_ok-text.ensures) IsUntouched _ _ _
          c.in_err-print.ensures,
    )

pub returns-clause-printed : goal.returns-clause-printed
returns-clause-printed g c =
    let p = c.in_ok-print.ensures in (
      c.in_ok-file.file,
      p.0,
      c.in_ok-file.ensures,
      subst (λ (x : List ℕ). IsCheckIn c.args.form c.args.name.now c.in_ok-file.file x) (sym (p.1 ∙ c.deref.ensures)) c.in_ok-text.ensures,
      p.2,
    )

pub returns-clause-answer : goal.returns-clause-answer
returns-clause-answer g c = (c.in_ok-file.file, c.in_ok-file.ensures, c.in_ok-promised.ensures)
