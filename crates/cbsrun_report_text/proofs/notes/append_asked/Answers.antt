use Rattle.std.proofs.Common.{append_assoc}
use Rattle.cbsrun_report_text.proofs.notes.append_asked.Goals as goal

pub returns : goal.returns
returns c = simp append_assoc (simp (
  c.new-asked.ensures.part,
  c.new-asked.ensures.whole,
  c.wanted.ensures.value,
  c.new-reserved.ensures.part,
  c.new-reserved.ensures.whole,
  c.from.ensures,
  c.budget-budget.ensures.value,
  c.period.ensures.value,
) at c.writeln.ensures.bytes)
