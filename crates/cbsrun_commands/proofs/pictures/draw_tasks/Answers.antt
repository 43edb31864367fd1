use Rattle.std.proofs.Common.{◌≡◌, ◌∙◌, subst, ℕ, map, string_bytes}
use Rattle.std.proofs.lemmas.Result.{err_from_is_err_and}
use Rattle.cbsrun_lines.proofs.Writers.{untouched}
use Rattle.cbsrun_runs.specs.Tasks.{clock_of_tasks, run_of_tasks}
use Rattle.cbsrun_tasks.specs.TaskFiles.{File}
use Rattle.cbsrun_commands.specs.Drawings.{PrintsDrawing, task_drawer}
use Rattle.cbsrun_commands.proofs.Drawings.{drawn_of_file}
use Rattle.cbsrun_commands.proofs.Endings.{same_file}
use Rattle.cbsrun_commands.proofs.pictures.draw_tasks.Goals as goal

pub returns-in_err-first : goal.returns-in_err-first
returns-in_err-first g c =
    let p = err_from_is_err_and c.from_residual.result c.from_residual.ensures.1 in
    rw (p.1, p.2) (c.in_err-first.ensures, untouched _)

pub returns-in_err-end : goal.returns-in_err-end
returns-in_err-end g c =
    let p = err_from_is_err_and c.from_residual-in_err-end.result c.from_residual-in_err-end.ensures.1 in
    rw (p.1, p.2) (c.in_ok-first.first, c.in_ok-first.ensures, untouched _)

pub returns-in_err-tasks : goal.returns-in_err-tasks
returns-in_err-tasks g c =
    let p = err_from_is_err_and c.from_residual-in_err-tasks.result c.from_residual-in_err-tasks.ensures.1 in
    rw (p.1, p.2) (c.in_err-tasks.ensures, untouched _)

pub returns : goal.returns
returns g c =
    let old = g.O.ByteOutput.state c.args.out.now in
    let new = g.O.ByteOutput.state c.print_drawing.new.out in
    let f = c.in_ok-tasks.tasks in
    let servers = map string_bytes c.args.servers.now in
    let asked = c.args.asked in
    let name = c.args.name.now in
    let r = c.print_drawing.result in
    let end : c.in_ok-end.end ≡ clock_of_tasks f = c.in_ok-end.ensures
    ∙ same_file c.args.bytes.now c.in_ok-first.first f c.in_ok-first.ensures c.in_ok-tasks.ensures in
    let printed = subst (λ (h : File). PrintsDrawing asked servers name (run_of_tasks h) c.in_ok-end.end r old new) c.of-replay.ensures c.print_drawing.ensures in
    drawn_of_file (task_drawer asked servers name) c.args.bytes.now f r old new c.in_ok-tasks.ensures
    (subst (λ (n : ℕ). PrintsDrawing asked servers name (run_of_tasks f) n r old new) end printed)
