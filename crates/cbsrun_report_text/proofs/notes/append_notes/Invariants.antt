use Rattle.std.proofs.Common.{◌≡◌, ◌++◌, drop, codes, string_bytes}
use Rattle.cbsrun_report_text.specs.Notes.{notes_from}
use Rattle.cbsrun_report_text.proofs.notes.append_notes.Given as goal

-- what is written, and the notes of the servers to come
abbrev pub invariant-loop-at : goal.invariant-loop-at
invariant-loop-at l =
    string_bytes l.text ++ notes_from l.tick l.clock l.servers l.loads l.at (drop l.at l.servers)
    ≡ string_bytes l.fn.text ++ (codes "\n" ++ notes_from l.tick l.clock l.servers l.loads 0 l.servers)
