use Rattle.std.proofs.Common.{◌≡◌, ◌++◌, string_bytes}
use Rattle.cbsrun_text.specs.Columns.{blanks}
use Rattle.cbsrun_text.proofs.columns.append_blanks.Given as goal

abbrev pub invariant-loop-blank : goal.invariant-loop-blank
invariant-loop-blank l = string_bytes l.text ≡ string_bytes l.fn.text ++ blanks l._blank
