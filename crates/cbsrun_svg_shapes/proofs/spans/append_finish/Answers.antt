use Rattle.std.proofs.Common.{append_assoc}
use Rattle.cbsrun_svg_shapes.proofs.spans.append_finish.Goals as goal

pub returns : goal.returns
returns c =
    rw c.in-Some.is (simp append_assoc (simp (append_assoc, c.in_ok-append_time.ensures, c.in_ok-push_str.ensures.bytes, c.saturating_sub.ensures) at
    c.append_late_by.ensures))
