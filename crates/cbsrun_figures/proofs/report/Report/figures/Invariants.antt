use Rattle.std.proofs.Common.{◌≡◌, ◌++◌, length}
use Rattle.std.specs.Vec.Iter.{into_iter_items, into_iter_len}
use Rattle.cbsrun_figures.proofs.Telling.{TellAll}
use Rattle.cbsrun_figures.proofs.report.Report.figures.Given as goal

-- the figures of the first servers
abbrev pub invariant-loop-tally : goal.invariant-loop-tally
invariant-loop-tally g l = record {
  count : into_iter_len l.tally-iterator ≡ length (into_iter_items l.tally-iterator);
  all : l.fn.self.kept ≡ l.yielded ++ into_iter_items l.tally-iterator;
  told : TellAll l.now l.yielded l.figures.items;
}
