use Rattle.std.proofs.Common.{length, ◌-◌, ◌≡◌, ◌≤◌, take}
use Rattle.std.specs.Io.KnownBytes.{Appends}
use Rattle.cbsrun_io.proofs.output.write_text.Given as goal

abbrev pub invariant-loop-done : goal.invariant-loop-done
invariant-loop-done g l = record {
  within : l.done ≤ length l.text;
  so_far : Appends (g.O.ByteOutput.state l.initial.out).written (g.O.ByteOutput.state l.out).written (take l.done l.text);
  none_failed : (g.O.ByteOutput.state l.out).failed ≡ (g.O.ByteOutput.state l.initial.out).failed;
}

abbrev pub decreases-loop-done : goal.decreases-loop-done
decreases-loop-done g l = length l.text - l.done
