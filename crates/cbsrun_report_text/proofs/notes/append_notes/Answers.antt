use Rattle.std.proofs.Common.{◌<◌, codes, length, string_bytes, arith}
use Rattle.std.proofs.lemmas.List.{append_assoc}
use Rattle.cbsrun_report_text.specs.Notes.{not_in_time}
use Rattle.cbsrun_report_text.proofs.ServerNotes.{notes_done, notes_more}
use Rattle.cbsrun_report_text.proofs.notes.append_notes.Goals as goal

pub returns : goal.returns
returns c =
    let servers = c.args.servers.now in
    let some : 0 < length (not_in_time servers) = omega (arith, c.count_wrong.ensures) in
    notes_done c.args.tick c.args.clock servers c.args.loads.now (not_in_time servers) c.loop-at.at (string_bytes c.args.text.now) (string_bytes c.loop-at.text)
    c.loop-at-test.false some c.loop-at.invariant

pub loop-at-preserved : goal.loop-at-preserved
loop-at-preserved c =
    notes_more c.args.tick c.args.clock c.args.servers.now c.args.loads.now c.loop-at.at c.index-servers-at.result c.load_of.result
    (string_bytes c.loop-at.text) (string_bytes c.append_note.new.text) _ c.loop-at-test.true c.index-servers-at.is c.load_of.ensures c.in_ok-append_note.ensures
    c.loop-at.invariant

pub loop-at-init : goal.loop-at-init
loop-at-init c = rw c.in_ok-push_str.ensures.bytes (append_assoc (string_bytes c.args.text.now) (codes "\n") _)
