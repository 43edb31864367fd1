use Rattle.std.proofs.Common.{ℕ, ◌<◌}
use Rattle.cbs_core.specs.Held.{IsClosed}
use Rattle.cbs_clients.proofs.house.House.are_all_closed.Given as goal

abbrev pub invariant-loop-server : goal.invariant-loop-server
invariant-loop-server g l = (s : ℕ) → s < l.server → IsClosed l.self.core s
