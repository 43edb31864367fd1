use Rattle.std.proofs.Common.{◌∙◌, ap, map, refl, string_bytes}
use Rattle.std.proofs.lemmas.Result.{err_from_is_err_and}
use Rattle.cbsrun_lines.proofs.Writers.{untouched}
use Rattle.cbsrun_records.specs.Spelling.{record_of}
use Rattle.cbsrun_run_records.specs.Recorded.{IsRecorded}
use Rattle.cbsrun_runs.specs.Records.{run_of_record}
use Rattle.cbsrun_commands.proofs.PrintedRecords.{printed_record, stopped_record}
use Rattle.cbsrun_commands.proofs.run_records.record_again.Goals as goal

pub returns-in_err-record : goal.returns-in_err-record
returns-in_err-record g c =
    let p = err_from_is_err_and c.from_residual.result c.from_residual.ensures.1 in
    rw (p.1, p.2) (c.in_err-record.ensures, untouched _)

pub returns-in_err-names : goal.returns-in_err-names
returns-in_err-names g c =
    let p = err_from_is_err_and c.from_residual-in_err-names.result c.from_residual-in_err-names.ensures.1 in
    rw (p.1, p.2) (c.in_ok-record.record, c.in_ok-record.ensures, untouched _)

pub returns-in_err-print_record : goal.returns-in_err-print_record
returns-in_err-print_record g c =
    let f = c.in_ok-record.record in
    let p = err_from_is_err_and c.from_residual-in_err-print_record.result c.from_residual-in_err-print_record.ensures.1 in
    rw (p.1, p.2) (stopped_record record_of (λ f. IsRecorded f.names (run_of_record f)) c.args.bytes.now f f.names _ (run_of_record f) _ c.in_ok-record.ensures
    (λ t told. told)
    c.print_record.result (g.O.ByteOutput.state c.args.out.now) (g.O.ByteOutput.state c.print_record.new.out)
    (ap (map string_bytes) c.deref.ensures.value ∙ c.in_ok-names.ensures) refl c.print_record.ensures
    c.in_err-print_record.field-0.0 c.in_err-print_record.was)

pub returns : goal.returns
returns g c =
    let f = c.in_ok-record.record in
    printed_record record_of (λ f. IsRecorded f.names (run_of_record f)) c.args.bytes.now f f.names _ (run_of_record f) _ c.in_ok-record.ensures
    (λ t told. told)
    c.print_record.result (g.O.ByteOutput.state c.args.out.now) (g.O.ByteOutput.state c.print_record.new.out)
    (ap (map string_bytes) c.deref.ensures.value ∙ c.in_ok-names.ensures) refl c.print_record.ensures
    c.in_ok-print_record.field-0 c.in_ok-print_record.was
