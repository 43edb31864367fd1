use Rattle.std.proofs.Common.{◌≡◌, drop, length}
use Rattle.toml.specs.View.{view}
use Rattle.cbsrun_toml_tables.specs.Fields.{number, each_from}
use Rattle.cbsrun_toml_tables.proofs.Each.{with_front}
use Rattle.cbsrun_toml_tables.proofs.fields.units.Given as goal

abbrev pub invariant-loop-value : goal.invariant-loop-value
invariant-loop-value l = record {
  so_far : with_front l.units.items (each_from l.value-index (λ _ v. number 0 4294967295 (view v)) (drop l.value-index l.values))
      ≡ each_from 0 (λ _ v. number 0 4294967295 (view v)) l.values;
  count : length l.units.items ≡ l.value-index;
}
