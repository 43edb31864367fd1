use Rattle.std.proofs.Common.{◌≡◌, ◌≤◌, ℕ, drop, length}
use Rattle.std.specs.Prelude.{All}
use Rattle.toml.specs.View.{view}
use Rattle.cbs_rules.specs.Rules.{clock_end}
use Rattle.cbsrun_toml_tables.specs.Fields.{each_from}
use Rattle.cbsrun_toml_tables.proofs.Each.{with_front}
use Rattle.cbsrun_entries.specs.Sources.{listed_tick}
use Rattle.cbsrun_entries.proofs.listed.each_tick.Given as goal

abbrev pub invariant-loop-value : goal.invariant-loop-value
invariant-loop-value l = record {
  so_far : with_front l.listed.items (each_from l.value-index (λ _ v. listed_tick l.tick (view v)) (drop l.value-index l.values))
      ≡ each_from 0 (λ _ v. listed_tick l.tick (view v)) l.values;
  count : length l.listed.items ≡ l.value-index;
  early : All (λ (n : ℕ). n ≤ clock_end) l.listed.items;
}
