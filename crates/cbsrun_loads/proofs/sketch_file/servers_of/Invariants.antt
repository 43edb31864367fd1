use Rattle.std.proofs.Common.{◌≡◌, ◌≤◌, [], map, drop, length, string_bytes}
use Rattle.toml.specs.View.{view}
use Rattle.cbs_rate.specs.Limits.{most_servers}
use Rattle.cbsrun_toml_tables.specs.Documents.{taken_in}
use Rattle.cbsrun_loads.specs.Sketches.{sketched_entry}
use Rattle.cbsrun_loads.proofs.sketch_file.servers_of.Given as goal

abbrev pub invariant-loop-i : goal.invariant-loop-i
invariant-loop-i l = record {
  so_far : taken_in (sketched_entry l.tick) l.i (record { names = map string_bytes l.names.items; servers = l.servers.items }) (map view (drop l.i l.entries))
      ≡ taken_in (sketched_entry l.tick) 0 (record { names = []; servers = [] }) (map view l.entries);
  named : length l.names.items ≡ length l.servers.items;
  few : length l.names.items ≤ most_servers;
}
