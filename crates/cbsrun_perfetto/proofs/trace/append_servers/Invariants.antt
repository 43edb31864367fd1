use Rattle.std.proofs.Common.{◌≡◌, ◌++◌, string_bytes, take}
use Rattle.cbsrun_perfetto.specs.Traces.{numbered, server_text}
use Rattle.cbsrun_perfetto.proofs.trace.append_servers.Given as goal

abbrev pub invariant-loop-place : goal.invariant-loop-place
invariant-loop-place l = string_bytes l.text ≡ string_bytes l.fn.text ++ numbered (server_text l.nanoseconds) 0 (take l.place l.servers)
