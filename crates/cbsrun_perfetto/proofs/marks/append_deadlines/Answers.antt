use Rattle.std.proofs.Common.{arith}
use Rattle.std.proofs.lemmas.Grind.{common_steps}
use Rattle.cbsrun_perfetto.specs.Traces.{deadlines_of}
use Rattle.cbsrun_perfetto.proofs.marks.append_deadlines.Goals as goal

pub returns : goal.returns
unfolding deadlines_of
returns c = grind (arith, common_steps)

pub loop-tick-preserved : goal.loop-tick-preserved
unfolding deadlines_of
loop-tick-preserved c = grind (arith, common_steps)
