use Rattle.std.proofs.Common.{[], flat_map, sym, ap, ◌∙◌, map-id}
use Rattle.std.proofs.lemmas.Iterator.{YieldsList-from_chars}
use Rattle.std.proofs.lemmas.Iterator.Consumers.{YieldsList-end}
use Rattle.std.proofs.lemmas.List.{flat_map_more}
use Rattle.cbsrun_refusal_texts.specs.Pages.{printable_character}
use Rattle.cbsrun_refusal_texts.proofs.Pages.{appends_more, as_text}
use Rattle.cbsrun_refusal_texts.proofs.page.Page.push_printable.Goals as goal

pub loop-character-preserved : goal.loop-character-preserved
loop-character-preserved c =
    appends_more c.args.self.now c.loop-character.self c.push_character.new.self _ _ _ c.loop-character.invariant c.push_character.ensures
    (flat_map_more printable_character [] c.loop-character.yielded c.in-Some.character)

pub returns : goal.returns
returns c =
    let end = YieldsList-end (YieldsList-from_chars c.args.text.now c.utf8.text cc) c.loop-character.yielded _ c.loop-character.yielded_by _ _ c.in-None.is c.next.ensures.steps in
    as_text c.args.self.now c.loop-character.self _ _ c.loop-character.invariant
    (ap (flat_map printable_character) (sym (map-id c.loop-character.yielded) ∙ end.0))
