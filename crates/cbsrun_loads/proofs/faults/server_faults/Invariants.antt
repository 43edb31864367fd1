use Rattle.std.proofs.Common.{◌≡◌, ◌≤◌, ◌++◌, List, map, drop, length}
use Rattle.toml.specs.View.{view}
use Rattle.cbsrun_toml_tables.specs.declared.fault.FileFault.{FileFault}
use Rattle.cbsrun_entries.specs.Noted.{AreFaults}
use Rattle.cbsrun_loads.specs.Faults.{none_named, server_faults}
use Rattle.cbsrun_loads.specs.Spelling.{named_view}
use Rattle.cbsrun_loads.proofs.Judged.{servers_left}
use Rattle.cbsrun_loads.proofs.faults.server_faults.Given as goal

abbrev pub invariant-loop-i : goal.invariant-loop-i
invariant-loop-i l =
    (seen : List FileFault) × AreFaults l.most seen l.faults × (length seen ≤ l.i)
    × (seen ++ servers_left l.tick l.i (named_view l.names.items l.setup) (map view (drop l.i l.entries)) seen
    ≡ server_faults l.tick 0 (none_named l.fn.bound) (map view l.entries))
    × (l.faults.count ≡ 0 → length l.names.items ≡ length l.setup.plan.rates)
