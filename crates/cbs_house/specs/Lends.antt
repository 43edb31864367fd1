-- What is left of a feed after it lent its client.
use Rattle.std.specs.Borrow.{Lends, Fml, RattleType, MutBor}
use Rattle.std.specs.declared.alloc.Allocator as allocator
use Rattle.cbs_job.specs.declared.work.Work as work
use Rattle.cbs_clients.specs.contracts.client.Client as client
use Rattle.cbs_clients.specs.declared.client.Client.{Client}
use Rattle.cbs_house.specs.contracts.feed.Feed as feed
use Rattle.cbs_house.specs.declared.feed.Feed.{Feed}

module _ (W A : RattleType) (g : work.Ghosts W.Denot) (alloc : allocator.Ghosts A.Denot) (f : MutBor (Feed W.Denot A.Denot g)) where
  -- once the borrow r ends, the client of the feed is the last one written through r
  abbrev pub lends_client : MutBor (Client W.Denot A.Denot g) → Fml
  lends_client r = Lends (feed.the_row W A g alloc) (client.the_row W A g alloc) f r (λ c. record f.now { client = c })
