use Rattle.std.proofs.Common.{sym, ◌∙◌}
use Rattle.toml.specs.View.{table_view}
use Rattle.cbsrun_fault_texts.proofs.Explained.{same_top}
use Rattle.cbsrun_fault_texts.proofs.faults.append_explanation.Goals as goal

pub returns-in-Ok : goal.returns-in-Ok
returns-in-Ok c top utf8 read =
    let is = same_top (table_view c.in-Ok.top) top (sym c.in-Ok.ensures.ok.1 ∙ read) in
    c.append_fault.ensures c.args.name.now top (rw is at c.new.ensures.document)
