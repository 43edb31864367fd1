use Rattle.std.specs.List.{AllWithin}
use Rattle.cbs_house.specs.Feeds.{KeepsFeeds}
use Rattle.cbs_house.specs.Rounds.{Ready, IsTaken}
use Rattle.cbs_clients.specs.Houses.{ServesBy}
use Rattle.cbs_house.proofs.service.take_rest.Given as goal

abbrev pub invariant-loop-index : goal.invariant-loop-index
invariant-loop-index g l =
    record {
      ready : Ready l.house l.feeds;
      feeds : KeepsFeeds l.initial.feeds l.feeds;
      steps : ServesBy g.W.Work.meaning g.M.Meter.may_tell l.initial.house l.house;
      taken : AllWithin (IsTaken l.house) l.feeds 0 l.index;
    }
