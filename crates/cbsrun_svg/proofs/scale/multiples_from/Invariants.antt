use Rattle.std.proofs.Common.{◌≡◌, map}
use Rattle.std.specs.List.{range_with_len}
use Rattle.cbsrun_svg.specs.Heads.{multiple}
use Rattle.cbsrun_svg.proofs.scale.multiples_from.Given as goal

abbrev pub invariant-loop-place : goal.invariant-loop-place
invariant-loop-place l = l.ticks.items ≡ map (multiple l.first l.step) (range_with_len 0 l.place)
