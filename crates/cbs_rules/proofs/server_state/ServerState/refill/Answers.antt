use Rattle.std.proofs.Common.{rules}
use Rattle.cbs_rules.proofs.server_state.ServerState.refill.Goals as goal

pub returns-then-self-from : goal.returns-then-self-from
returns-then-self-from c = search rules
