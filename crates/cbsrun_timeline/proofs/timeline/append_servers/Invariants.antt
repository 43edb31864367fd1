use Rattle.std.proofs.Common.{◌≡◌, ◌++◌, take, string_bytes}
use Rattle.std.specs.Prelude.{flat_map}
use Rattle.cbsrun_timeline.specs.Timelines.{server_text}
use Rattle.cbsrun_timeline.proofs.timeline.append_servers.Given as goal

abbrev pub invariant-loop-server : goal.invariant-loop-server
invariant-loop-server l =
    string_bytes l.text ≡ string_bytes l.fn.text ++ flat_map (server_text l.grid l.first l.count) (take l.server-index l.servers)
