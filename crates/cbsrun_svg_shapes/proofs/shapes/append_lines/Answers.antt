use Rattle.std.proofs.Common.{◌≡◌, ◌∙◌, append_assoc, eqb, length, false, sym}
use Rattle.cbsrun_svg_shapes.specs.Shapes.{lines_text}
use Rattle.cbsrun_svg_shapes.proofs.shapes.append_lines.Goals as goal

pub returns : goal.returns
unfolding lines_text
returns c = let some : eqb (length c.args.shape.now) 0 ≡ false = sym c.is_empty.ensures
    ∙ c.if-is_empty.false in rw some (simp append_assoc c.writeln.ensures.bytes)
