use Rattle.std.proofs.Common.{◌≡◌, take, string_bytes}
use Rattle.std.specs.Prelude.{flat_map}
use Rattle.cbsrun_svg_shapes.specs.Marks.{crosses_text}
use Rattle.cbsrun_svg_shapes.proofs.marks.append_refused.Given as goal

abbrev pub invariant-loop-stretch : goal.invariant-loop-stretch
invariant-loop-stretch l = string_bytes l.shape ≡ flat_map (crosses_text l.axis l.layout) (take l.stretch-index l.refused)
