use Rattle.std.proofs.Common.{◌∙◌, ap}
use Rattle.cbs_rules.specs.Rules.{Reserved}
use Rattle.cbs_rules.proofs.Replenishments.{replenished_ticked}
use Rattle.cbs_rules.proofs.server_state.ServerState.replenish.Goals as goal

pub returns-clause-ticks : goal.returns-clause-ticks
returns-clause-ticks c = λ start n some e.
    ap (λ (s : Reserved). s.state) c.refill.ensures ∙ replenished_ticked c.args.self.now.reservation c.args.now start n c.args.self.now.state some e
