use Rattle.std.specs.List.{AllWithin}
use Rattle.cbs_results.specs.Collected.{IsComplete}
use Rattle.cbs_results.proofs.collector.Collector.is_waiting.Given as goal

abbrev pub invariant-loop-shelf : goal.invariant-loop-shelf
invariant-loop-shelf g l = AllWithin IsComplete l.shelf-items 0 l.shelf-index
