use Rattle.std.proofs.Common.{◌≡◌, take}
use Rattle.cbsrun_perfetto.specs.Traces.{events_of, numbered}
use Rattle.cbsrun_perfetto.proofs.trace.all_events.Given as goal

abbrev pub invariant-loop-place : goal.invariant-loop-place
invariant-loop-place l = l.lines.items ≡ numbered (events_of l.window) 1 (take l.place l.servers)
