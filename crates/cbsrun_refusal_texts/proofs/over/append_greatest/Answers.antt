use Rattle.cbsrun_refusal_texts.specs.Over.{TellsGreatest}
use Rattle.cbsrun_refusal_texts.proofs.Helps.{help_of}
use Rattle.cbsrun_refusal_texts.proofs.over.append_greatest.Goals as goal

pub returns : goal.returns
returns c =
    let says = rw c.period-period.ensures.value at c.greatest_words-words.ensures in
    help_of c.greatest_words-words.result c.args.page.now c.push_note.new.self (TellsGreatest c.args.refused.now.tick c.args.refused.now.plan c.args.refused.now.reservation.period) says
    c.push_note.ensures
