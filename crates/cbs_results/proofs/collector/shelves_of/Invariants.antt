use Rattle.std.proofs.Common.{◌≡◌, length}
use Rattle.std.specs.List.{All}
use Rattle.cbs_results.specs.Collected.{SameShelf, no_shelf}
use Rattle.cbs_results.proofs.collector.shelves_of.Given as goal

abbrev pub invariant-loop-server : goal.invariant-loop-server
invariant-loop-server g l = record { count : length l.shelves.items ≡ l._server; empty : All (SameShelf no_shelf) l.shelves.items }
