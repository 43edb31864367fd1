use Rattle.std.proofs.Common.{◌≡◌, ℕ, List, ◌++◌, map, length, arith}
use Rattle.std.proofs.lemmas.Grind.{common_steps}
use Rattle.std.specs.Prelude.{codes, decimal}
use Rattle.std.proofs.lemmas.List.{append_assoc, length-map}
use Rattle.toml.specs.View.{view}
use Rattle.cbsrun_refusal_texts.specs.Over.{parts_words}
use Rattle.cbsrun_refusal_texts.proofs.Helps.{note_as}
use Rattle.cbsrun_refusal_texts.proofs.Listed.{parts_none, parts_some}
use Rattle.cbsrun_refusal_texts.proofs.over.append_parts.Goals as goal

pub loop-place-init : goal.loop-place-init
loop-place-init c =
    let n = length c.args.parts.now in
    let servers = c.args.document.servers.now in
    parts_none (map view servers) c.args.parts.now c.args.page.now c.push_note.new.self
    (rw (length-map servers view)
    (note_as 3 _ c.format-words.result c.args.page.now c.push_note.new.self _ (parts_words n (length servers)) c.format-words.ensures.ok
    (words_are (decimal n) (decimal (length servers))) c.push_note.ensures))
  where
    words_are : (n m : List ℕ) → codes "on " ++ (n ++ (codes " executors all " ++ (m ++ codes " servers fit:")))
        ≡ codes "on " ++ n ++ codes " executors all " ++ m ++ codes " servers fit:"
    words_are n m = simp append_assoc

pub loop-place-preserved : goal.loop-place-preserved
loop-place-preserved c =
    parts_some (map view c.args.document.servers.now) c.args.parts.now c.args.page.now c.loop-place.page c.append_part.new.page c.loop-place.place
    c.index-parts-place.result c.loop-place-test.true c.index-parts-place.is c.loop-place.invariant c.append_part.ensures

pub returns : goal.returns
returns c = grind (arith, common_steps)
