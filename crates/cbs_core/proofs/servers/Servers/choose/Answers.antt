use Rattle.std.proofs.Common.{◌∙◌}
use Rattle.cbs_core.proofs.ReadyServers.{choice_listed, chosen_listed}
use Rattle.cbs_core.proofs.servers.Servers.choose.Goals as goal

pub returns-clause-first : goal.returns-clause-first
returns-clause-first g c = rw (← c.self.view_is) (c.first.ensures ∙ chosen_listed c.self.inside.servers.items c.self.inside.ready c.self.invariant.1)

pub returns-clause-choice : goal.returns-clause-choice
returns-clause-choice g c = rw (c.first.ensures, ← c.self.view_is) (choice_listed c.self.inside.servers.items c.self.inside.ready c.self.invariant.1)
