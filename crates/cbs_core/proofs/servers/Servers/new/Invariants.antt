use Rattle.std.proofs.Common.{◌≡◌, map, take}
use Rattle.cbs_steps.specs.Faces.{new_face}
use Rattle.cbs_steps.specs.Setups.{terms_of}
use Rattle.cbs_core.proofs.servers.Servers.new.Given as goal

abbrev pub invariant-loop-server : goal.invariant-loop-server
invariant-loop-server g l = l.servers.items ≡ map new_face (take l.server (terms_of l.modes l.plan.rates))
