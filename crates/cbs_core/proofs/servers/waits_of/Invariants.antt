use Rattle.std.proofs.Common.{take}
use Rattle.cbs_core.specs.Waiting.{Keeps}
use Rattle.cbs_core.proofs.servers.waits_of.Given as goal

abbrev pub invariant-loop-it : goal.invariant-loop-it
invariant-loop-it l = Keeps l.waits (take l.it-index l.servers)
