use Rattle.std.proofs.Common.{◌≡◌, take}
use Rattle.cbsrun_timeline.specs.Signs.{width_of}
use Rattle.cbsrun_timeline.proofs.grid.width_of.Given as goal

abbrev pub invariant-loop-server : goal.invariant-loop-server
invariant-loop-server l = l.width ≡ width_of (take l.server-index l.servers)
