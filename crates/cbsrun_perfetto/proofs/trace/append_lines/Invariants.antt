use Rattle.std.proofs.Common.{◌≡◌, ◌++◌, string_bytes, take}
use Rattle.std.specs.Prelude.{flat_map}
use Rattle.cbsrun_perfetto.specs.Events.{event_text}
use Rattle.cbsrun_perfetto.specs.Traces.{next_text}
use Rattle.cbsrun_perfetto.proofs.trace.append_lines.Given as goal

abbrev pub invariant-loop-line : goal.invariant-loop-line
invariant-loop-line l = string_bytes l.text ≡ string_bytes l.fn.text ++ flat_map (λ line. next_text (event_text l.nanoseconds line)) (take l.line-index l.lines)
