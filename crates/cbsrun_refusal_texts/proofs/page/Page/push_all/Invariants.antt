use Rattle.std.proofs.Common.{take, map}
use Rattle.std.specs.List.{concat}
use Rattle.cbsrun_refusal_texts.specs.Pages.{Appends}
use Rattle.cbsrun_refusal_texts.proofs.page.Page.push_all.Given as goal

abbrev pub invariant-loop-part : goal.invariant-loop-part
invariant-loop-part l = Appends l.initial.self l.self (concat (map (λ part. part.now) (take l.part-index l.parts)))
