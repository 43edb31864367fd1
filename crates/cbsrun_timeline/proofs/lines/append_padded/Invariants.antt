use Rattle.std.proofs.Common.{◌≡◌, ◌++◌, replicate, string_bytes}
use Rattle.cbsrun_timeline.proofs.lines.append_padded.Given as goal

abbrev pub invariant-loop-blank : goal.invariant-loop-blank
invariant-loop-blank l = string_bytes l.text ≡ (string_bytes l.fn.text ++ l.word) ++ replicate l._blank 32
