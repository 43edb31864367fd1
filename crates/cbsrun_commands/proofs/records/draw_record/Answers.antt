use Rattle.std.proofs.Common.{◌≡◌, ◌∙◌, subst, ℕ, map, string_bytes}
use Rattle.std.proofs.lemmas.Result.{err_from_is_err_and}
use Rattle.cbsrun_lines.proofs.Writers.{untouched}
use Rattle.cbsrun_records.specs.Records.{RecordFile}
use Rattle.cbsrun_runs.specs.Records.{clock_of_record, run_of_record}
use Rattle.cbsrun_commands.specs.Drawings.{PrintsDrawing}
use Rattle.cbsrun_commands.specs.Records.{record_drawer}
use Rattle.cbsrun_commands.proofs.Drawings.{drawn_of_file}
use Rattle.cbsrun_commands.proofs.records.draw_record.Goals as goal

pub returns-in_err-record : goal.returns-in_err-record
returns-in_err-record g c =
    let p = err_from_is_err_and c.from_residual.result c.from_residual.ensures.1 in
    rw (p.1, p.2) (c.in_err-record.ensures, untouched _)

pub returns-in_err-end : goal.returns-in_err-end
returns-in_err-end g c =
    let p = err_from_is_err_and c.from_residual-in_err-end.result c.from_residual-in_err-end.ensures.1 in
    rw (p.1, p.2) (c.in_ok-record.record, c.in_ok-record.ensures, untouched _)

pub returns : goal.returns
returns g c =
    let old = g.O.ByteOutput.state c.args.out.now in
    let new = g.O.ByteOutput.state c.print_drawing.new.out in
    let f = c.in_ok-record.record in
    let servers = map string_bytes c.args.servers.now in
    let asked = c.args.asked in
    let name = c.args.name.now in
    let r = c.print_drawing.result in
    let printed = subst (λ (h : RecordFile). PrintsDrawing asked servers name (run_of_record h) c.in_ok-end.end r old new) c.end_of.ensures.leaves c.print_drawing.ensures in
    drawn_of_file (record_drawer asked servers name) c.args.bytes.now f r old new c.in_ok-record.ensures
    (subst (λ (n : ℕ). PrintsDrawing asked servers name (run_of_record f) n r old new) c.in_ok-end.ensures.end printed)
