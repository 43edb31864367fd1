use Rattle.std.proofs.Common.{◌∙◌, ◌∷◌, [], ◌++◌, ap, map, sym}
use Rattle.std.specs.List.{range_with_len}
use Rattle.cbsrun_svg.specs.Heads.{multiple}
use Rattle.cbsrun_svg_shapes.proofs.Texts.{mapped_more}
use Rattle.cbsrun_svg.proofs.scale.multiples_from.Goals as goal

pub loop-place-preserved : goal.loop-place-preserved
loop-place-preserved c =
    let f = multiple c.args.first c.args.step in
    c.in_ok-push.ensures.items ∙ (ap (λ xs. xs ++ c.multiple.result ∷ []) c.loop-place.invariant
    ∙ (ap (λ x. map f (range_with_len 0 c.loop-place.place) ++ x ∷ []) c.multiple.ensures ∙ sym (mapped_more f c.loop-place.place)))
