use Rattle.std.proofs.Common.{◌≡◌, ◌≤◌, ◌-◌, length}
use Rattle.std.specs.Io.KnownBytes.{Consumes}
use Rattle.cbsrun_io.proofs.input.read_all.Given as goal

abbrev pub invariant-loop-n : goal.invariant-loop-n
invariant-loop-n g l = record {
  so_far : Consumes (g.R.ByteInput.left l.fn.reader) (g.R.ByteInput.left l.reader) l.bytes.items;
  small : length l.bytes.items ≤ 16777216;
  none_failed : g.R.ByteInput.failed l.reader ≡ g.R.ByteInput.failed l.fn.reader;
}

abbrev pub decreases-loop-n : goal.decreases-loop-n
decreases-loop-n g l = 16777216 - length l.bytes.items
