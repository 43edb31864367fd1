use Rattle.std.proofs.Common.{◌≡◌, length, map, take}
use Rattle.std.specs.Prelude.{string_bytes}
use Rattle.cbsrun_runs.proofs.jobs.names_of.Given as goal

-- the names of the first servers
abbrev pub invariant-loop-server : goal.invariant-loop-server
invariant-loop-server g l = record {
  names : map string_bytes l.names.items ≡ take l.server (g.R.Run.run l.run).names;
  count : length l.names.items ≡ l.server;
}
