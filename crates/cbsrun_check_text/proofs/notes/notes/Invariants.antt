use Rattle.std.proofs.Common.{◌≡◌, string_bytes}
use Rattle.std.specs.List.{flat_map, range_with_len}
use Rattle.cbsrun_check_text.specs.Notes.{note_at}
use Rattle.cbsrun_check_text.proofs.notes.notes.Given as goal

abbrev pub invariant-loop-server : goal.invariant-loop-server
invariant-loop-server l = string_bytes l.text ≡ flat_map (note_at l.load l.loads) (range_with_len 0 l.server)
