use Rattle.std.proofs.lemmas.Result.{err_from_is_err_and}
use Rattle.cbsrun_lines.proofs.Writers.{untouched}
use Rattle.cbsrun_lines.specs.Writers.{IsUntouched}
use Rattle.cbsrun_commands.proofs.Drawings.{fits_shown}
use Rattle.cbsrun_commands.proofs.Endings.{stops_as}
use Rattle.cbsrun_commands.proofs.pictures.print_drawing.Goals as goal

pub print_picture-requires-clause-fits : goal.print_picture-requires-clause-fits
print_picture-requires-clause-fits g c = fits_shown c.args.asked.drawing c.args.asked.ticks c.in_ok-window.window c.args.end c.in_ok-window.ensures c.args.asked.fits

pub returns-in_err-missing : goal.returns-in_err-missing
returns-in_err-missing g c =
    let p = err_from_is_err_and c.from_residual.result c.from_residual.ensures.1 in
    rw (p.1, p.2) (untouched _)

pub returns-in_err-window : goal.returns-in_err-window
returns-in_err-window g c =
    let p = err_from_is_err_and c.from_residual-in_err-window.result c.from_residual-in_err-window.ensures.1 in
    rw (p.1, p.2) (c.in_err-window.ensures, untouched _)

pub returns-in_err-print_picture : goal.returns-in_err-print_picture
returns-in_err-print_picture g c =
    let p = err_from_is_err_and c.from_residual-in_err-print_picture.result c.from_residual-in_err-print_picture.ensures.1 in
    let there = rw c.in-None.is at c.in_ok-missing.ensures in
    rw (p.1, p.2) (stops_as _ _ (λ text h. (there, (c.in_ok-window.window, c.in_ok-window.ensures, h))) IsUntouched _ _ _ c.in_err-print_picture.ensures)

pub returns : goal.returns
returns g c =
    let p = c.in_ok-print_picture.ensures in
    let there = rw c.in-None.is at c.in_ok-missing.ensures in
    (p.0, there, (c.in_ok-window.window, c.in_ok-window.ensures, p.1), c.cut_of.ensures, p.2)
