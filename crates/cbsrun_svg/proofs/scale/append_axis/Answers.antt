use Rattle.std.proofs.Common.{append_assoc}
use Rattle.cbsrun_svg.specs.Heads.{axis_text}
use Rattle.cbsrun_svg.proofs.scale.append_axis.Goals as goal

pub returns : goal.returns
unfolding axis_text
returns c = simp append_assoc (simp (
  append_assoc,
  c.in_ok-append_uprights.ensures,
  c.in_ok-append_small_marks.ensures,
  c.in_ok-write.ensures.bytes,
  c.left-left.ensures.value,
  c.right-right.ensures.value,
) at c.writeln.ensures.bytes)
