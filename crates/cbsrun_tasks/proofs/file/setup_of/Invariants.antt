use Rattle.std.proofs.Common.{◌≡◌, map, drop}
use Rattle.toml.specs.View.{view}
use Rattle.cbsrun_tasks.specs.Spelling.{admitted_entry}
use Rattle.cbsrun_toml_tables.specs.Documents.{taken_in}
use Rattle.cbs_rules.specs.Setups.{no_servers}
use Rattle.cbsrun_tasks.proofs.file.setup_of.Given as goal

abbrev pub invariant-loop-i : goal.invariant-loop-i
invariant-loop-i l = taken_in (admitted_entry l.mode) l.i l.setup (map view (drop l.i l.entries))
    ≡ taken_in (admitted_entry l.mode) 0 (no_servers l.fn.bound) (map view l.entries)
