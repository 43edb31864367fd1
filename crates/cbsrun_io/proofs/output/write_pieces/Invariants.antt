use Rattle.std.proofs.Common.{◌≡◌, drop}
use Rattle.cbsrun_io.specs.Writers.{joined, AppendsAllBut}
use Rattle.cbsrun_io.proofs.output.write_pieces.Given as goal

abbrev pub invariant-loop-piece : goal.invariant-loop-piece
invariant-loop-piece g l = record {
  so_far : AppendsAllBut (g.O.ByteOutput.state l.fn.out).written (g.O.ByteOutput.state l.out).written (joined (drop l.piece-index l.pieces)) (joined l.pieces);
  none_failed : (g.O.ByteOutput.state l.out).failed ≡ (g.O.ByteOutput.state l.fn.out).failed;
}
