use Rattle.std.proofs.Common.{arith}
use Rattle.std.proofs.lemmas.Grind.{common_steps}
use Rattle.cbsrun_perfetto.specs.Traces.{events_of}
use Rattle.cbsrun_perfetto.proofs.server.append_events.Goals as goal

pub returns : goal.returns
unfolding events_of
returns c = grind (arith, common_steps)
