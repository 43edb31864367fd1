use Rattle.std.proofs.Common.{sym}
use Rattle.cbsrun_runs.proofs.recorded.show_entry.Goals as goal

pub returns-in-Ok-clause-shown : goal.returns-in-Ok-clause-shown
returns-in-Ok-clause-shown g c = rw (c.in-Accepted.is, ← c.from.ensures, ← c.in-Ok.ensures.ok) c.show_step.ensures.shown

pub returns-in-Ok-clause-stopped : goal.returns-in-Ok-clause-stopped
returns-in-Ok-clause-stopped g c = rw (c.in-Accepted.is, ← c.from.ensures, ← c.in-Ok.ensures.ok) c.show_step.ensures.stopped

pub returns-in-Units-clause-shown : goal.returns-in-Units-clause-shown
returns-in-Units-clause-shown g c = rw c.in-Units.is c.show_runs.ensures.shown

pub returns-in-Units-clause-stopped : goal.returns-in-Units-clause-stopped
returns-in-Units-clause-stopped g c = rw c.in-Units.is c.show_runs.ensures.stopped

pub returns-in-Advanced-clause-shown : goal.returns-in-Advanced-clause-shown
returns-in-Advanced-clause-shown g c = rw c.in-Advanced.is c.show_step-in-Advanced.ensures.shown

pub returns-in-Advanced-clause-stopped : goal.returns-in-Advanced-clause-stopped
returns-in-Advanced-clause-stopped g c = rw c.in-Advanced.is c.show_step-in-Advanced.ensures.stopped

pub returns-in-Charged-clause-shown : goal.returns-in-Charged-clause-shown
returns-in-Charged-clause-shown g c = rw (c.in-Charged.is, ← c.from-in-Charged.ensures) c.show_step-in-Charged.ensures.shown

pub returns-in-Charged-clause-stopped : goal.returns-in-Charged-clause-stopped
returns-in-Charged-clause-stopped g c = rw (c.in-Charged.is, ← c.from-in-Charged.ensures) c.show_step-in-Charged.ensures.stopped

pub returns-in-Closed-clause-shown : goal.returns-in-Closed-clause-shown
returns-in-Closed-clause-shown g c = rw (c.in-Closed.is, ← c.from-in-Closed.ensures) c.show_step-in-Closed.ensures.shown

pub returns-in-Closed-clause-stopped : goal.returns-in-Closed-clause-stopped
returns-in-Closed-clause-stopped g c = rw (c.in-Closed.is, ← c.from-in-Closed.ensures) c.show_step-in-Closed.ensures.stopped
