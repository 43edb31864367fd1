use Rattle.std.proofs.Common.{◌≡◌, ◌++◌, drop}
use Rattle.cbs_tape.specs.Spelling.{spelling}
use Rattle.cbs_tape.proofs.writing.write.Given as goal

-- what is written so far, and the rest of the entries
abbrev pub invariant-loop-entry : goal.invariant-loop-entry
invariant-loop-entry g l = l.bytes.items ++ spelling (drop l.entry-index l.entries) ≡ spelling l.entries
