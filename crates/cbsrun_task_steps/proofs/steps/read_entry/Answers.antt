use Rattle.toml.specs.Data.{table}
use Rattle.toml.specs.Tables.{close}
use Rattle.cbsrun_task_steps.proofs.steps.read_entry.Goals as goal

pub returns-in-Some-clause-read : goal.returns-in-Some-clause-read
returns-in-Some-clause-read c =
    let spelled = c.in-Some.ensures in
    record {
      entry = table (close spelled.pairs);
      read = spelled.read;
      took = c.in_ok-keep.ensures.kept c.args.terms (table (close spelled.pairs)) spelled.spells spelled.named;
    }
