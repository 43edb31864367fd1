use Rattle.std.proofs.Common.{◌∙◌, subst, sym, List, ℕ}
use Rattle.std.proofs.lemmas.Result.{err_from_is_err_and}
use Rattle.cbsrun_lines.proofs.Writers.{untouched}
use Rattle.cbsrun_lines.specs.Writers.{IsUntouched}
use Rattle.cbsrun_commands.specs.Outputs.{IsJobsText}
use Rattle.cbsrun_commands.proofs.Endings.{stops_as}
use Rattle.cbsrun_commands.proofs.load_jobs.write_jobs.Goals as goal

pub returns-in_err-load : goal.returns-in_err-load
returns-in_err-load g c =
    let p = err_from_is_err_and c.from_residual.result c.from_residual.ensures.1 in
    rw (p.1, p.2) (c.in_err-load.ensures, untouched _)

pub returns-in_err-text : goal.returns-in_err-text
returns-in_err-text g c =
    let p = err_from_is_err_and c.from_residual-in_err-text.result c.from_residual-in_err-text.ensures.1 in
    rw (p.1, p.2) (c.in_ok-load.load, c.in_ok-load.ensures, untouched _)

pub returns-in_err-print : goal.returns-in_err-print
returns-in_err-print g c =
    let p = err_from_is_err_and c.from_residual-in_err-print.result c.from_residual-in_err-print.ensures.1 in
    rw (p.1, p.2) (
      c.in_ok-load.load,
      c.in_ok-load.ensures,
      stops_as _ _ (λ t e. subst (λ (x : List ℕ). IsJobsText c.in_ok-load.load x) (sym (e ∙ c.deref.ensures))
          (c.in_ok-text.ensures.csv, c.in_ok-text.ensures.lawful)) IsUntouched _ _ _ c.in_err-print.ensures,
    )

pub returns : goal.returns
returns g c =
    let p = c.in_ok-print.ensures in (
      c.in_ok-load.load,
      p.0,
      c.in_ok-load.ensures,
      subst (λ (x : List ℕ). IsJobsText c.in_ok-load.load x) (sym (p.1 ∙ c.deref.ensures)) (c.in_ok-text.ensures.csv, c.in_ok-text.ensures.lawful),
      p.2,
    )
