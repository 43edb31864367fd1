use Rattle.std.proofs.Common.{arith}
use Rattle.std.proofs.lemmas.Grind.{common_steps}
use Rattle.cbsrun_perfetto.specs.Traces.{lines_text}
use Rattle.cbsrun_perfetto.proofs.trace.append_lines.Goals as goal

pub returns : goal.returns
unfolding lines_text
returns c = grind (arith, common_steps)

pub loop-line-preserved : goal.loop-line-preserved
unfolding lines_text
loop-line-preserved c = grind (arith, common_steps)
