use Rattle.std.proofs.Common.{rules}
use Rattle.cbs_clients.proofs.house.House.go_on_if_busy.Goals as goal

pub returns-then-now-eq-LIMIT-clause-collects : goal.returns-then-now-eq-LIMIT-clause-collects
returns-then-now-eq-LIMIT-clause-collects g c = search rules

pub go_on-requires-clause-early : goal.go_on-requires-clause-early
go_on-requires-clause-early g c = search rules

pub returns-clause-job : goal.returns-clause-job
returns-clause-job g c = c.go_on.ensures.job

pub returns-then-now-eq-LIMIT-clause-goes_on : goal.returns-then-now-eq-LIMIT-clause-goes_on
returns-then-now-eq-LIMIT-clause-goes_on g c = search rules

pub go_on-requires-clause-busy : goal.go_on-requires-clause-busy
go_on-requires-clause-busy g c = search rules

pub returns-then-not-is_busy-clause-goes_on : goal.returns-then-not-is_busy-clause-goes_on
returns-then-not-is_busy-clause-goes_on g c = search rules

pub returns-clause-goes_on : goal.returns-clause-goes_on
returns-clause-goes_on g c = c.go_on.ensures.goes_on

pub returns-clause-collects : goal.returns-clause-collects
returns-clause-collects g c = c.go_on.ensures.collects
