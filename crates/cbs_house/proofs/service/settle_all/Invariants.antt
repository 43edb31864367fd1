use Rattle.std.specs.List.{All, AllWithin}
use Rattle.cbs_house.specs.Feeds.{KeepsFeeds}
use Rattle.cbs_clients.specs.Houses.{LooksOnly}
use Rattle.cbs_house.specs.Rounds.{Ready, IsTaken, ReceivesFirst}
use Rattle.cbs_house.proofs.service.settle_all.Given as goal

abbrev pub invariant-loop-index : goal.invariant-loop-index
invariant-loop-index g l =
    record {
      ready : Ready l.house l.feeds;
      feeds : KeepsFeeds l.initial.feeds l.feeds;
      looked : LooksOnly l.initial.house l.house;
      received : AllWithin (ReceivesFirst l.house) l.feeds 0 l.index;
      taken : All (IsTaken l.initial.house) l.initial.feeds → All (IsTaken l.house) l.feeds;
    }
