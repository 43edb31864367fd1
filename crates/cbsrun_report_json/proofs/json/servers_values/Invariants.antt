use Rattle.std.proofs.Common.{◌≡◌, map, take}
use Rattle.serde_json.specs.View.{view}
use Rattle.cbsrun_report_json.specs.Json.{server_data}
use Rattle.cbsrun_report_json.proofs.json.servers_values.Given as goal

abbrev pub invariant-loop-server : goal.invariant-loop-server
invariant-loop-server l = map view l.values.items ≡ map server_data (take l.server-index l.servers)
