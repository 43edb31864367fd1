use Rattle.cbs_steps.specs.History.{world_after}
use Rattle.cbsrun_simulate.specs.Loading.{loading}
use Rattle.cbsrun_simulate.proofs.Spans.{span_here}
use Rattle.cbsrun_simulate.proofs.moves.span_if_idle.Goals as goal

pub returns-in-None : goal.returns-in-None
returns-in-None g c = λ M agrees. span_here loading (world_after loading M) c.idle_span.result (c.idle_span.ensures M agrees)
