use Rattle.std.proofs.Common.{◌∷◌, [], lit<}
use Rattle.std.proofs.lemmas.Iterator.Splits.{YieldsList-from_str_split}
use Rattle.std.proofs.lemmas.Iterator.Consumers.{YieldsList-at, YieldsList-end}
use Rattle.std.proofs.lemmas.List.{map-append}
use Rattle.cbsrun_refusal_texts.proofs.Laid.{laid_more, laid_all}
use Rattle.cbsrun_refusal_texts.proofs.page.Page.push_words.Goals as goal

pub loop-word-preserved : goal.loop-word-preserved
loop-word-preserved c =
    rw (map-append (λ word. word.now) c.loop-word.yielded (c.in-Some.word ∷ []))
    (laid_more c.args.indent c.loop-word.column c.push_word.result c.args.self.now c.loop-word.self c.push_word.new.self _ _ c.loop-word.invariant c.push_word.ensures)

pub returns : goal.returns
returns c =
    let start = c.into_iter-word-iterator.ensures.into_iter_gives in
    let road = YieldsList-from_str_split 32 c.args.text.now (lit< tt) (c.split-word-items.ensures.text) c.split-word-items.ensures.has_more c.split-word-items.ensures.pattern in
    let all = YieldsList-end (YieldsList-at start road) c.loop-word.yielded _ c.loop-word.yielded_by _ _ c.in-None.is c.next.ensures.steps in
    laid_all c.args.indent c.loop-word.column c.args.self.now c.loop-word.self _ c.args.text.now c.loop-word.invariant all.0
