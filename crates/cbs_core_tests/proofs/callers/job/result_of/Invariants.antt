use Rattle.std.proofs.Common.{◌≡◌}
use Rattle.cbs_job.specs.Work.{whole}
use Rattle.cbs_core_tests.proofs.callers.job.result_of.Given as goal

abbrev pub invariant-loop-running : goal.invariant-loop-running
invariant-loop-running g l = whole g.W.Work.meaning l.running ≡ whole g.W.Work.meaning l.initial.running

abbrev pub decreases-loop-running : goal.decreases-loop-running
decreases-loop-running g l = g.W.Work.meaning.left l.running
