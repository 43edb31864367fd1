use Rattle.cbsrun_fault_texts.proofs.Explained.{explained_in}
use Rattle.cbsrun_fault_texts.proofs.faults.explain_in.Goals as goal

pub returns : goal.returns
returns c = record {
  refusal = explained_in c.args.document c.args.fault c.new-page.result c.append_fault.new.page c.finish.result c.new-page.ensures.1 c.append_fault.ensures
      c.finish.ensures;
}
