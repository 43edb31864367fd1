use Rattle.std.proofs.Common.{map}
use Rattle.cbsrun_refusal_texts.proofs.Laid.{AppendsLaid}
use Rattle.cbsrun_refusal_texts.proofs.page.Page.push_words.Given as goal

abbrev pub invariant-loop-word : goal.invariant-loop-word
invariant-loop-word l = AppendsLaid l.indent l.column l.initial.self l.self (map (λ word. word.now) l.yielded)
