use Rattle.std.proofs.Common.{append_assoc}
use Rattle.cbsrun_svg_shapes.specs.Marks.{course_path}
use Rattle.cbsrun_svg_shapes.proofs.marks.append_course.Goals as goal

pub returns : goal.returns
unfolding course_path
returns c = simp append_assoc (simp (
  append_assoc,
  c.in_ok-append_corners.ensures,
  c.in_ok-write.ensures.bytes,
  c.left-left.ensures.value,
  c.level_of-level.ensures,
  c.right-right.ensures.value,
) at c.writeln.ensures.bytes)
