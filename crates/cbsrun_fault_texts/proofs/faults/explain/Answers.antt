use Rattle.cbsrun_fault_texts.proofs.Explained.{explained}
use Rattle.cbsrun_fault_texts.proofs.faults.explain.Goals as goal

pub returns : goal.returns
returns c = record {
  refusal = explained c.args.name.now c.args.bytes.now c.args.fault c.new-page.result c.append_explanation.new.page c.finish.result c.new-page.ensures.1
      c.append_explanation.ensures c.finish.ensures;
}
