use Rattle.std.proofs.Common.{◌+◌, ◌*◌}
use Rattle.cbsrun_sweeps.proofs.sweep.+sweep.Given as goal

-- each part has fewer threads
abbrev pub decreases-swept_on : goal.decreases-swept_on
decreases-swept_on g l = 2 * l.threads

abbrev pub decreases-join+arg2 : goal.decreases-join+arg2
decreases-join+arg2 g l = 2 * l.fewer + 1

abbrev pub decreases-join+arg3 : goal.decreases-join+arg3
decreases-join+arg3 g l = 2 * l.others + 1
