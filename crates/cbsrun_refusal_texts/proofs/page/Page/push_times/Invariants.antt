use Rattle.cbsrun_refusal_texts.specs.Pages.{Appends, times}
use Rattle.cbsrun_refusal_texts.proofs.page.Page.push_times.Given as goal

abbrev pub invariant-loop-time : goal.invariant-loop-time
invariant-loop-time l = Appends l.initial.self l.self (times l._time l.part)
