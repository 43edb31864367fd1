use Rattle.std.proofs.Common.{arith}
use Rattle.std.proofs.lemmas.Grind.{common_steps}
use Rattle.cbsrun_perfetto.specs.Traces.{arrival_line}
use Rattle.cbsrun_perfetto.proofs.marks.arrival_line.Goals as goal

pub returns : goal.returns
unfolding arrival_line
returns c = grind (arith, common_steps)
