use Rattle.std.proofs.Common.{◌≡◌, take, string_bytes}
use Rattle.std.specs.Prelude.{flat_map}
use Rattle.cbsrun_svg_shapes.specs.Spans.{pale_text}
use Rattle.cbsrun_svg_shapes.proofs.spans.append_pale.Given as goal

abbrev pub invariant-loop-span : goal.invariant-loop-span
invariant-loop-span l = string_bytes l.shape ≡ flat_map (pale_text l.axis l.layout) (take l.span-index l.spans)
