use Rattle.std.proofs.Common.{arith}
use Rattle.std.proofs.lemmas.Grind.{common_steps}
use Rattle.cbsrun_perfetto.specs.Traces.{server_text}
use Rattle.cbsrun_perfetto.proofs.server.append_server.Goals as goal

pub returns : goal.returns
unfolding server_text
returns c = grind (arith, common_steps)
