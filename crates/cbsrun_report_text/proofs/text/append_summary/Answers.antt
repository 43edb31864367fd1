use Rattle.std.proofs.Common.{append_assoc}
use Rattle.cbsrun_report_text.specs.Texts.{summary_text}
use Rattle.cbsrun_report_text.proofs.text.append_summary.Goals as goal

pub returns : goal.returns
unfolding summary_text
returns c = simp append_assoc (simp (
  append_assoc,
  c.in_ok-append_charged.ensures,
  c.in_ok-write.ensures.bytes,
  c.new-got.ensures.part,
  c.new-got.ensures.whole,
  c.of-run.ensures.value,
  c.of.ensures.value,
  c.deref.ensures.value,
  c.deref-2.ensures.value,
) at c.writeln.ensures.bytes)
