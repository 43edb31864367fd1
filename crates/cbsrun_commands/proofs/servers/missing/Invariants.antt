use Rattle.std.proofs.Common.{◌≡◌, map, string_bytes, take, true}
use Rattle.cbsrun_commands.specs.Drawings.{are_among}
use Rattle.cbsrun_commands.proofs.servers.missing.Given as goal

-- the first names that are wanted are there
abbrev pub invariant-loop-name : goal.invariant-loop-name
invariant-loop-name l = are_among (map string_bytes l.names) (map string_bytes (take l.name-index l.wanted)) ≡ true
