use Rattle.std.proofs.Common.{◌≡◌, take, string_bytes}
use Rattle.std.specs.Prelude.{flat_map}
use Rattle.std.proofs.Common.{◌-◌}
use Rattle.cbsrun_svg_shapes.specs.Shapes.{stretch_text}
use Rattle.cbsrun_svg.proofs.picture.append_idle_boxes.Given as goal

abbrev pub invariant-loop-stretch : goal.invariant-loop-stretch
invariant-loop-stretch l = string_bytes l.shape ≡ flat_map (stretch_text l.axis (l.scale - 900) 600) (take l.stretch-index l.idle)
