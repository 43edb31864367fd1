use Rattle.std.proofs.Common.{rules}
use Rattle.cbs_rules.proofs.server_state.ServerState.consume.Goals as goal

pub returns-in-Soft : goal.returns-in-Soft
returns-in-Soft c = search rules
