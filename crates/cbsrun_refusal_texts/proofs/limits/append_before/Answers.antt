use Rattle.cbsrun_refusal_texts.specs.Refusals.{before_words}
use Rattle.cbsrun_refusal_texts.proofs.Helps.{note_of}
use Rattle.cbsrun_refusal_texts.proofs.limits.append_before.Goals as goal

pub returns : goal.returns
returns c = note_of 2 _ c.format-words.result c.args.page.now c.push_note.new.self (before_words c.args.ticks) c.format-words.ensures.ok c.push_note.ensures
