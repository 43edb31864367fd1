use Rattle.cbsrun_refusal_texts.proofs.Pages.{appends_more, times_more}
use Rattle.cbsrun_refusal_texts.proofs.page.Page.push_times.Goals as goal

pub loop-time-preserved : goal.loop-time-preserved
loop-time-preserved c =
    appends_more c.args.self.now c.loop-time.self c.push.new.self _ _ _ c.loop-time.invariant c.push.ensures (times_more c.loop-time._time c.args.part.now)
