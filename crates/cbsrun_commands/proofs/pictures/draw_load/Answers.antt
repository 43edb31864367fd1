use Rattle.std.proofs.Common.{subst, ℕ, map, string_bytes}
use Rattle.std.proofs.lemmas.Result.{err_from_is_err_and}
use Rattle.cbsrun_lines.proofs.Writers.{untouched}
use Rattle.cbsrun_runs.specs.Loads.{run_of}
use Rattle.cbsrun_commands.specs.Drawings.{PrintsDrawing, load_drawer}
use Rattle.cbsrun_commands.proofs.Drawings.{drawn_of_file}
use Rattle.cbsrun_commands.proofs.pictures.draw_load.Goals as goal

pub returns-in_err-load : goal.returns-in_err-load
returns-in_err-load g c =
    let p = err_from_is_err_and c.from_residual.result c.from_residual.ensures.1 in
    rw (p.1, p.2) (c.in_err-load.ensures, untouched _)

pub returns : goal.returns
returns g c =
    let old = g.O.ByteOutput.state c.args.out.now in
    let new = g.O.ByteOutput.state c.print_drawing.new.out in
    let f = c.in_ok-load.load in
    let servers = map string_bytes c.args.servers.now in
    drawn_of_file (load_drawer c.args.changes c.args.asked servers c.args.name.now) c.args.bytes.now f c.print_drawing.result old new c.in_ok-load.ensures
    (subst (λ (n : ℕ). PrintsDrawing c.args.asked servers c.args.name.now (run_of f) n c.print_drawing.result old new) c.until-end.ensures.value
    c.print_drawing.ensures)
