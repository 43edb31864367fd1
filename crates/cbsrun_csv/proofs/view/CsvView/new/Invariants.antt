use Rattle.std.proofs.Common.{◌≡◌}
use Rattle.cbsrun_csv.specs.Kept.{new_kept}
use Rattle.cbsrun_csv.proofs.view.CsvView.new.Given as goal

-- no jobs of the first servers
abbrev pub invariant-loop-server : goal.invariant-loop-server
invariant-loop-server l = l.servers.items ≡ new_kept l._server
