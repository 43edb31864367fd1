use Rattle.std.proofs.Common.{◌≡◌, drop}
use Rattle.std.specs.Prelude.{All}
use Rattle.toml.specs.View.{view}
use Rattle.cbsrun_toml_tables.specs.declared.fault.Place.TheVariants.{Step as AtStep}
use Rattle.cbsrun_records.specs.Entries.{step_entry}
use Rattle.cbsrun_toml_tables.specs.Fields.{each_from}
use Rattle.cbsrun_toml_tables.specs.Documents.{at}
use Rattle.cbsrun_records.specs.Records.{IsEntryOf}
use Rattle.cbsrun_toml_tables.proofs.Each.{with_front}
use Rattle.cbsrun_records.proofs.file.entries_of.Given as goal

abbrev pub invariant-loop-i : goal.invariant-loop-i
invariant-loop-i l = record {
  so_far : with_front l.entries.items (each_from l.i (λ i v. at (AtStep i) (step_entry l.servers (view v))) (drop l.i l.steps))
      ≡ each_from 0 (λ i v. at (AtStep i) (step_entry l.servers (view v))) l.steps;
  lawful : All (IsEntryOf l.servers) l.entries.items;
}
