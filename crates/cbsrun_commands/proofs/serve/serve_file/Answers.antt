use Rattle.std.proofs.Common.{◌≡◌, ◌∙◌, ap}
use Rattle.std.proofs.lemmas.Result.{err_from_is_err_and}
use Rattle.cbs_clients.specs.Houses.{results_of}
use Rattle.cbsrun_commands.specs.ResultLines.{kept_lines, result_lines}
use Rattle.cbsrun_commands.proofs.ResultLines.{result_lines_are}
use Rattle.cbsrun_commands.proofs.serve.serve_file.Goals as goal

pub returns-in_err-write_text : goal.returns-in_err-write_text
returns-in_err-write_text g c =
    let p = err_from_is_err_and c.from_residual-in_err-write_text.result c.from_residual-in_err-write_text.ensures.1 in
    let house = c.in-Ok.house in
    let text : c.as_bytes.result.now ≡ result_lines c.args.file =
    c.as_bytes.ensures.value ∙ (c.in_ok-text.ensures
    ∙ (ap (kept_lines (results_of house)) c.in-Ok.ensures.servers ∙ result_lines_are c.args.file (results_of house) c.in-Ok.ensures.results)) in
    rw (p.1, p.2) (rw text at c.in_err-write_text.ensures.err)

pub returns : goal.returns
returns g c =
    let house = c.in-Ok.house in
    let text : c.as_bytes.result.now ≡ result_lines c.args.file =
    c.as_bytes.ensures.value ∙ (c.in_ok-text.ensures
    ∙ (ap (kept_lines (results_of house)) c.in-Ok.ensures.servers ∙ result_lines_are c.args.file (results_of house) c.in-Ok.ensures.results)) in
    rw text at c.in_ok-write_text.ensures.ok
