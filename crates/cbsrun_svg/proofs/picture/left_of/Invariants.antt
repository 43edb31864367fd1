use Rattle.std.proofs.Common.{◌≡◌, ◌≤◌, length, take}
use Rattle.cbsrun_svg.specs.Pictures.{left_of}
use Rattle.cbsrun_svg.proofs.picture.left_of.Given as goal

abbrev pub invariant-loop-server : goal.invariant-loop-server
invariant-loop-server l = record {
  value : l.left ≡ left_of l.nanoseconds (length l.servers) (take l.server-index l.servers);
  small : l.left ≤ 100000;
}
