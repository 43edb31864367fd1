use Rattle.std.proofs.Common.{◌≡◌, not, take}
use Rattle.std.specs.List.{count_by}
use Rattle.cbs_clients.proofs.house.House.open_servers.Given as goal

abbrev pub invariant-loop-server : goal.invariant-loop-server
invariant-loop-server g l = l.open ≡ count_by (λ f. not f.closed) (take l.server l.self.core.faces)
