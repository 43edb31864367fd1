use Rattle.std.proofs.Common.{◌∙◌, ◌++◌, ap, string_bytes, sym}
use Rattle.std.specs.List.{flat_map, range_with_len}
use Rattle.cbsrun_svg.specs.Heads.{small_mark}
use Rattle.cbsrun_svg_shapes.proofs.Texts.{grown, numbered_more}
use Rattle.cbsrun_svg.proofs.scale.append_small_marks.Goals as goal

pub loop-place-preserved : goal.loop-place-preserved
loop-place-preserved c =
    let f = small_mark c.args.axis.now c.args.y in
    let place = c.loop-place.place in
    grown _ _ _ (flat_map f (range_with_len 0 place)) (f place) c.in_ok-append_small_mark.ensures c.loop-place.invariant
    ∙ ap (λ t. string_bytes c.args.shape.now ++ t) (sym (numbered_more f place))
