use Rattle.std.proofs.Common.{◌≡◌, ◌++◌, take, string_bytes}
use Rattle.std.specs.Prelude.{flat_map}
use Rattle.cbsrun_svg_shapes.specs.Marks.{corner_text}
use Rattle.cbsrun_svg_shapes.proofs.marks.append_corners.Given as goal

abbrev pub invariant-loop-corner : goal.invariant-loop-corner
invariant-loop-corner l = string_bytes l.text ≡ string_bytes l.fn.text ++ flat_map (corner_text l.axis l.whole) (take l.corner-index l.corners)
