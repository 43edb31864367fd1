use Rattle.std.proofs.Common.{◌≡◌, ℕ, List, ◌++◌}
use Rattle.std.specs.Prelude.{codes, decimal}
use Rattle.std.proofs.lemmas.List.{append_assoc}
use Rattle.cbsrun_refusal_texts.specs.Over.{alone_words}
use Rattle.cbsrun_refusal_texts.proofs.Helps.{note_as}
use Rattle.cbsrun_refusal_texts.proofs.over.append_alone.Goals as goal

words_are : (n : List ℕ) → codes "server " ++ (n ++ codes " is over the bound even alone") ≡ codes "server " ++ n ++ codes " is over the bound even alone"
words_are n = simp append_assoc

pub returns : goal.returns
returns c =
    note_as 3 _ c.format-words.result c.args.page.now c.push_note.new.self _ (alone_words c.args.server) c.format-words.ensures.ok (words_are (decimal c.args.server))
    c.push_note.ensures
