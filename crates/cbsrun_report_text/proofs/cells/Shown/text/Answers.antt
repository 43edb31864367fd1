use Rattle.std.proofs.Common.{decimal}
use Rattle.std.proofs.lemmas.List.{append_assoc}
use Rattle.cbsrun_report_text.proofs.cells.Shown.text.Goals as goal

pub returns-in-Pair : goal.returns-in-Pair
returns-in-Pair c = rw (c.in-Pair.is, append_assoc (decimal c.in-Pair.first) c.in-Pair.word.now (decimal c.in-Pair.second)) c.format.ensures.ok
