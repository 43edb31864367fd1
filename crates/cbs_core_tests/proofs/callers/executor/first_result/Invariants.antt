use Rattle.cbs_core.specs.Held.{KeepsBudgets}
use Rattle.cbs_core_tests.proofs.callers.executor.first_result.Given as goal

abbrev pub invariant-loop-unit : goal.invariant-loop-unit
invariant-loop-unit g l = KeepsBudgets l.core
