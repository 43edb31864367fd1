use Rattle.std.proofs.Common.{◌≡◌, ◌++◌, take, string_bytes}
use Rattle.std.specs.Prelude.{flat_map}
use Rattle.cbsrun_svg_shapes.specs.Spans.{late_text}
use Rattle.cbsrun_svg.proofs.row.append_lates.Given as goal

abbrev pub invariant-loop-late : goal.invariant-loop-late
invariant-loop-late l =
    string_bytes l.text ≡ string_bytes l.fn.text ++ flat_map (late_text l.place.tick l.place.axis l.place.layout l.place.name.now) (take l.late-index l.lates)
