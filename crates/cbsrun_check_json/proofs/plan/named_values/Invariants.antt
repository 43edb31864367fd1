use Rattle.std.proofs.Common.{◌≡◌, map, string_bytes}
use Rattle.std.specs.List.{range_with_len}
use Rattle.serde_json.specs.View.{view}
use Rattle.cbsrun_check_json.specs.Json.{named_at}
use Rattle.cbsrun_check_json.proofs.plan.named_values.Given as goal

abbrev pub invariant-loop-server : goal.invariant-loop-server
invariant-loop-server l = map view l.values.items ≡ map (named_at (map string_bytes l.names) l.modes l.plan l.budgets) (range_with_len 0 l.server)
