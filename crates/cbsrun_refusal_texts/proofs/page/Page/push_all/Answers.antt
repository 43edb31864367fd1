use Rattle.cbsrun_refusal_texts.proofs.Pages.{appends_more, concat_more}
use Rattle.cbsrun_refusal_texts.proofs.page.Page.push_all.Goals as goal

pub loop-part-preserved : goal.loop-part-preserved
loop-part-preserved c =
    appends_more c.args.self.now c.loop-part.self c.push.new.self _ _ _ c.loop-part.invariant c.push.ensures (concat_more (λ part. part.now) c.args.parts.now c.loop-part.part-index _ c.loop-part-test.true)
