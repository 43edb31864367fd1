use Rattle.std.proofs.Common.{◌-◌}
use Rattle.cbs_rules.specs.declared.server_state.TheConstants.{LIMIT}
use Rattle.cbs_steps.specs.Continuations.{MayDrain}
use Rattle.cbs_clients.specs.Houses.{MovesBy}
use Rattle.cbs_clients.proofs.house.House.drain_metered.Given as goal

abbrev pub invariant-loop-self : goal.invariant-loop-self
invariant-loop-self g l =
    MovesBy g.W.Work.meaning g.M.Meter.may_tell (MayDrain g.W.Work.meaning) l.initial.self l.self 0

abbrev pub decreases-loop-self : goal.decreases-loop-self
decreases-loop-self g l = LIMIT - l.self.core.clock
