use Rattle.std.proofs.Common.{◌∙◌, ℕ, ◌++◌, ◌+◌, ap, string_bytes, sym}
use Rattle.std.specs.List.{flat_map, range_with_len}
use Rattle.cbsrun_svg_shapes.specs.Marks.{refusal_text}
use Rattle.cbsrun_svg_shapes.proofs.Texts.{grown, numbered_more}
use Rattle.cbsrun_svg_shapes.proofs.marks.append_crosses.Goals as goal

pub loop-place-preserved : goal.loop-place-preserved
loop-place-preserved c =
    let f = λ (k : ℕ). refusal_text c.args.axis.now c.args.layout.now (c.args.refused.now.from + k) in
    let place = c.loop-place.place in
    grown _ _ _ (flat_map f (range_with_len 0 place)) (f place) c.in_ok-append_refusal.ensures c.loop-place.invariant
    ∙ ap (λ t. string_bytes c.args.shape.now ++ t) (sym (numbered_more f place))
