use Rattle.std.proofs.Common.{◌≡◌, refl}
use Rattle.toml.specs.Data.{table}
use Rattle.toml.specs.Tables.{close}
use Rattle.toml.specs.View.{view, table_view}
use Rattle.toml.specs.declared.value.Value.{Table}
use Rattle.toml.proofs.Views.{view-Table}
use Rattle.cbsrun_toml.specs.Reading.{nodes_of}
use Rattle.cbsrun_toml.proofs.Puts.{close-nodes_of}
use Rattle.cbsrun_task_steps.proofs.steps.read_section.Goals as goal

pub returns-in-Some-clause-read : goal.returns-in-Some-clause-read
returns-in-Some-clause-read c =
    let spelled = c.in-Some.ensures in
    record {
      pairs = spelled.pairs;
      placed = spelled.read;
      took = c.in_ok-keep.ensures.kept c.args.terms (table (close spelled.pairs)) spelled.spells spelled.named;
    }

pub returns-clause-read : goal.returns-clause-read
returns-clause-read c =
    let read = c.in_ok-table.table in
    let one : view (Table read) ≡ table (close (nodes_of (table_view read))) = rw (view-Table read, close-nodes_of (table_view read)) refl in
    record {
      pairs = nodes_of (table_view read);
      placed = c.in_ok-table.ensures.value;
      took = λ entries spells. rw (← one) (c.in_ok-take.ensures.took entries spells);
    }
