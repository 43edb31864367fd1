use Rattle.std.proofs.Common.{◌≡◌, [], map, drop, length, string_bytes}
use Rattle.toml.specs.View.{view}
use Rattle.cbs_rules.specs.Setups.{no_servers}
use Rattle.cbsrun_toml_tables.specs.Documents.{taken_in}
use Rattle.cbsrun_loads.specs.Spelling.{admitted_entry}
use Rattle.cbsrun_loads.proofs.file.servers_of.Given as goal

abbrev pub invariant-loop-i : goal.invariant-loop-i
invariant-loop-i l = record {
  so_far : taken_in (admitted_entry l.tick) l.i (record { names = map string_bytes l.names.items; setup = l.setup }) (map view (drop l.i l.entries))
      ≡ taken_in (admitted_entry l.tick) 0 (record { names = []; setup = no_servers l.fn.bound }) (map view l.entries);
  named : length l.names.items ≡ length l.setup.plan.rates;
}
