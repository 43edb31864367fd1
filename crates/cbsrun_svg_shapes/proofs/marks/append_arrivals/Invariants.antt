use Rattle.std.proofs.Common.{◌≡◌, take, string_bytes}
use Rattle.std.specs.Prelude.{flat_map}
use Rattle.cbsrun_svg_shapes.specs.Marks.{arrival_text}
use Rattle.cbsrun_svg_shapes.proofs.marks.append_arrivals.Given as goal

abbrev pub invariant-loop-tick : goal.invariant-loop-tick
invariant-loop-tick l = string_bytes l.shape ≡ flat_map (arrival_text l.axis l.layout) (take l.tick-index l.ticks)
