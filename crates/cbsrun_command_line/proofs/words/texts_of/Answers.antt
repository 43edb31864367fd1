use Rattle.std.proofs.Common.{◌∙◌, [], List, Option, ap}
use Rattle.std.specs.Prelude.{unwrap_or}
use Rattle.std.proofs.lemmas.Result.{IfOk-weaker}
use Rattle.clap.specs.Words.{Text, found_of}
use Rattle.clap.proofs.WalkLemmas.{raw_values-rows}
use Rattle.cbsrun_command_line.proofs.words.texts_of.Goals as goal

pub returns-in-Some : goal.returns-in-Some
returns-in-Some c =
    let given = (rw c.in-Some.is at c.get_strs.ensures) ∙ raw_values-rows (found_of c.args.matches.now) c.args.name.now in
    IfOk-weaker c.copies_of.result _ _ (λ copies h. h ∙ ap (λ (o : Option (List Text)). unwrap_or o []) given) c.copies_of.ensures

pub returns-in-None : goal.returns-in-None
returns-in-None c =
    let given = (rw c.in-None.is at c.get_strs.ensures) ∙ raw_values-rows (found_of c.args.matches.now) c.args.name.now in
    rw c.new.ensures.items (ap (λ (o : Option (List Text)). unwrap_or o []) given)
