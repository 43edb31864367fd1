use Rattle.std.proofs.Common.{◌≡◌, drop, take}
use Rattle.std.specs.Prelude.{All}
use Rattle.cbsrun_toml_tables.specs.declared.fault.Place.TheVariants.{Step as AtStep}
use Rattle.cbsrun_toml_tables.specs.Documents.{at}
use Rattle.cbsrun_toml_tables.specs.Fields.{each_from}
use Rattle.cbsrun_toml_tables.proofs.Each.{with_front}
use Rattle.cbsrun_records.specs.Records.{IsEntryOf}
use Rattle.cbsrun_records.specs.Taped.{taped_entry}
use Rattle.cbsrun_records.proofs.taped.tested.Given as goal

-- the first entries have no fault
abbrev pub invariant-loop-i : goal.invariant-loop-i
invariant-loop-i l = record {
  so_far : with_front (take l.i l.entries) (each_from l.i (λ i e. at (AtStep i) (taped_entry l.servers e)) (drop l.i l.entries))
      ≡ each_from 0 (λ i e. at (AtStep i) (taped_entry l.servers e)) l.entries;
  lawful : All (IsEntryOf l.servers) (take l.i l.entries);
}
