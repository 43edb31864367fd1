use Rattle.std.proofs.Common.{rules}
use Rattle.cbs_rules.proofs.server_state.ServerState.is_renewed.Goals as goal

pub returns-in-Soft : goal.returns-in-Soft
returns-in-Soft c = search rules

pub returns-in-Throttled : goal.returns-in-Throttled
returns-in-Throttled c = search rules
