use Rattle.std.proofs.Common.{◌≡◌, length, string_bytes}
use Rattle.std.specs.Prelude.{map}
use Rattle.cbsrun_check_text.specs.Checks.{numbered}
use Rattle.cbsrun_check_text.proofs.check.numbered.Given as goal

abbrev pub invariant-loop-server : goal.invariant-loop-server
invariant-loop-server l = record {
  names : map string_bytes l.names.items ≡ numbered l.front l.server;
  count : length l.names.items ≡ l.server;
}
