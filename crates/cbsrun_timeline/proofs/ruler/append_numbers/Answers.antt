use Rattle.std.proofs.Common.{◌∙◌, ◌++◌, ap, string_bytes, sym}
use Rattle.std.specs.List.{flat_map, range_with_len}
use Rattle.cbsrun_text.proofs.Texts.{grown, numbered_more}
use Rattle.cbsrun_timeline.specs.Timelines.{number_text}
use Rattle.cbsrun_timeline.proofs.ruler.append_numbers.Goals as goal

pub loop-place-preserved : goal.loop-place-preserved
loop-place-preserved c =
    let f = number_text c.args.grid.now c.args.first in
    let place = c.loop-place.place in
    grown _ _ _ (flat_map f (range_with_len 0 place)) (f place) c.in_ok-append_number.ensures c.loop-place.invariant
    ∙ ap (λ t. string_bytes c.args.text.now ++ t) (sym (numbered_more f place))
