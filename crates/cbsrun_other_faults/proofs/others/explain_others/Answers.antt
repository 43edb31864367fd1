use Rattle.cbsrun_other_faults.specs.Others.{TellsOthersOf}
use Rattle.cbsrun_refusal_texts.proofs.Pages.{finished_text}
use Rattle.cbsrun_other_faults.proofs.others.explain_others.Goals as goal

pub returns : goal.returns
returns c = record {
  others = finished_text (TellsOthersOf c.args.most c.args.bytes.now) c.new-page.result c.append_others_of.new.page c.finish.result c.new-page.ensures.1
      c.append_others_of.ensures c.finish.ensures;
}
