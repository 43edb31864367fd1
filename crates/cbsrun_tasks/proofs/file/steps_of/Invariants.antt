use Rattle.std.proofs.Common.{◌≡◌, drop}
use Rattle.std.specs.Prelude.{All}
use Rattle.toml.specs.View.{view}
use Rattle.cbsrun_toml_tables.specs.declared.fault.Place.TheVariants.{Step as AtStep}
use Rattle.cbsrun_task_steps.specs.Entries.{step_entry}
use Rattle.cbsrun_toml_tables.specs.Fields.{each_from}
use Rattle.cbsrun_toml_tables.specs.Documents.{at}
use Rattle.cbsrun_task_steps.specs.Entries.{IsFileStep}
use Rattle.cbsrun_toml_tables.proofs.Each.{with_front}
use Rattle.cbsrun_tasks.proofs.file.steps_of.Given as goal

abbrev pub invariant-loop-i : goal.invariant-loop-i
invariant-loop-i l = record {
  so_far : with_front l.steps.items (each_from l.i (λ i v. at (AtStep i) (step_entry l.format l.servers (view v))) (drop l.i l.entries))
      ≡ each_from 0 (λ i v. at (AtStep i) (step_entry l.format l.servers (view v))) l.entries;
  named : All (IsFileStep l.servers) l.steps.items;
}
