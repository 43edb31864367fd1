use Rattle.std.proofs.Common.{◌≡◌, ◌++◌, take, string_bytes}
use Rattle.std.specs.Prelude.{flat_map}
use Rattle.cbsrun_svg_shapes.specs.Axes.{x_at}
use Rattle.cbsrun_svg_shapes.specs.Shapes.{upright_text}
use Rattle.cbsrun_svg.proofs.scale.append_uprights.Given as goal

abbrev pub invariant-loop-tick : goal.invariant-loop-tick
invariant-loop-tick l = string_bytes l.shape ≡ string_bytes l.fn.shape ++ flat_map (λ t. upright_text (x_at l.axis t) l.from l.to) (take l.tick-index l.ticks)
