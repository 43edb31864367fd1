use Rattle.std.proofs.Common.{◌≡◌, take, length}
use Rattle.cbs_house.specs.Feeds.{servers_of}
use Rattle.cbs_house.proofs.round.servers_of.Given as goal

abbrev pub invariant-loop-index : goal.invariant-loop-index
invariant-loop-index g l = record { count : length l.servers ≡ 64; noted : take l.index l.servers ≡ take l.index (servers_of l.feeds) }
