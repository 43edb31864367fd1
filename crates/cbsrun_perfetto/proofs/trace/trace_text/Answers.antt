use Rattle.std.proofs.Common.{arith}
use Rattle.std.proofs.lemmas.Grind.{common_steps}
use Rattle.cbsrun_perfetto.specs.Traces.{trace_text}
use Rattle.cbsrun_perfetto.proofs.trace.trace_text.Goals as goal

pub returns : goal.returns
unfolding trace_text
returns c = grind (arith, common_steps)
