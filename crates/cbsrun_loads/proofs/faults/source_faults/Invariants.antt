use Rattle.std.proofs.Common.{◌≡◌, ◌≤◌, ◌++◌, List, map, drop, length, string_bytes}
use Rattle.toml.specs.View.{view}
use Rattle.cbsrun_toml_tables.specs.declared.fault.FileFault.{FileFault}
use Rattle.cbsrun_toml_tables.specs.declared.fault.Place.TheVariants.{Source}
use Rattle.cbsrun_entries.specs.Noted.{AreFaults}
use Rattle.cbsrun_loads.specs.Faults.{faults_from, read_source, source_faults}
use Rattle.cbsrun_loads.specs.Due.{due_in_plan}
use Rattle.cbsrun_loads.proofs.faults.source_faults.Given as goal

abbrev pub invariant-loop-i : goal.invariant-loop-i
invariant-loop-i l =
    let due = due_in_plan l.plan.rates in
    let names = map string_bytes l.names in
    (seen : List FileFault) × AreFaults l.most seen l.faults × (length seen ≤ l.i)
    × (seen ++ faults_from Source (read_source l.tick names due) l.i tt (map view (drop l.i l.entries)) ≡ source_faults l.tick names due (map view l.entries))
