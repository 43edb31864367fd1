use Rattle.std.proofs.Common.{refl}
use Rattle.std.proofs.lemmas.Result.{err_from_is_err_and}
use Rattle.cbsrun_lines.proofs.Writers.{untouched}
use Rattle.cbsrun_lines.specs.Lines.{lines_of}
use Rattle.cbsrun_lines.specs.Traces.{WritesSomeLines}
use Rattle.cbsrun_runs.specs.Records.{seen_in_record}
use Rattle.cbsrun_commands.proofs.Printings.{prints_short}
use Rattle.cbsrun_commands.proofs.records.write_steps.Goals as goal

pub returns-in_err-record : goal.returns-in_err-record
returns-in_err-record g c =
    let p = err_from_is_err_and c.from_residual.result c.from_residual.ensures.1 in
    rw (p.1, p.2) (c.in_err-record.ensures, untouched _)

pub returns-in_err-write_lines : goal.returns-in_err-write_lines
returns-in_err-write_lines g c =
    let p = err_from_is_err_and c.from_residual-in_err-write_lines.result c.from_residual-in_err-write_lines.ensures.1 in
    let f = c.in_ok-record.record in
    rw (p.1, p.2) (f, c.in_ok-record.ensures, prints_short (lines_of (seen_in_record f)) (WritesSomeLines (seen_in_record f)) c.in_err-write_lines.field-0.0 _ _ c.in_err-write_lines.ensures.written)

pub returns : goal.returns
returns g c = (c.in_ok-record.record, _, c.in_ok-record.ensures, refl, c.in_ok-write_lines.ensures.written)
