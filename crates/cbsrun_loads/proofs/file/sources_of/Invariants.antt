use Rattle.std.proofs.Common.{◌≡◌, ℕ, drop, length, map, string_bytes, Vec}
use Rattle.std.specs.Prelude.{All}
use Rattle.std.specs.declared.alloc.Global.{Global}
use Rattle.toml.specs.View.{view}
use Rattle.cbsrun_simulate.specs.Drawing.{AreListed}
use Rattle.cbsrun_toml_tables.specs.declared.fault.Place.TheVariants.{Source as AtSource}
use Rattle.cbsrun_toml_tables.specs.Documents.{at}
use Rattle.cbsrun_toml_tables.specs.Fields.{each_from}
use Rattle.cbsrun_toml_tables.proofs.Each.{with_front}
use Rattle.cbsrun_entries.specs.Sources.{IsSource}
use Rattle.cbsrun_entries.specs.Sources.{paired}
use Rattle.cbsrun_loads.specs.Due.{source_entry}
use Rattle.cbsrun_loads.proofs.file.sources_of.Given as goal

abbrev pub invariant-loop-i : goal.invariant-loop-i
invariant-loop-i g l = record {
  so_far : with_front (paired l.sources.items (map (λ (v : Vec ℕ Global). v.items) l.listed.items))
      (each_from l.i (λ i v. at (AtSource i) (source_entry l.tick (map string_bytes l.names) (g.D.Due.due l.servers) (view v))) (drop l.i l.entries))
      ≡ each_from 0 (λ i v. at (AtSource i) (source_entry l.tick (map string_bytes l.names) (g.D.Due.due l.servers) (view v))) l.entries;
  lawful : All (IsSource (length l.names)) l.sources.items;
  follow : AreListed l.sources.items (map (λ (v : Vec ℕ Global). v.items) l.listed.items);
  count : length l.sources.items ≡ l.i;
  same : length l.listed.items ≡ length l.sources.items;
}
