use Rattle.std.proofs.Common.{◌≡◌, map, string_bytes, take}
use Rattle.cbsrun_commands.proofs.servers.names_of.Given as goal

-- the names of the first servers
abbrev pub invariant-loop-server : goal.invariant-loop-server
invariant-loop-server g l = map string_bytes l.names.items ≡ take l.server (g.R.Run.run l.run).names
