use Rattle.std.proofs.Common.{◌≡◌, ◌++◌, map, take, drop}
use Rattle.cbs_steps.specs.Faces.{with_replenishment}
use Rattle.cbs_core.specs.Invariant.{ListsReady}
use Rattle.cbs_core.specs.Waiting.{Keeps}
use Rattle.cbs_core.proofs.servers.replenish_all.Given as goal

abbrev pub invariant-loop-index : goal.invariant-loop-index
invariant-loop-index g l = record {
  servers : l.servers ≡ map (with_replenishment l.now) (take l.index l.initial.servers) ++ drop l.index l.initial.servers;
  listed : ListsReady l.ready l.servers;
  waits : Keeps l.waits (take l.index l.servers);
}
