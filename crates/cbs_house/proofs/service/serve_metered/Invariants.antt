use Rattle.std.proofs.Common.{◌<◌}
use Rattle.cbs_house.specs.Feeds.{KeepsFeeds}
use Rattle.cbs_house.specs.Rounds.{Ready, IsStalled, MakesRounds}
use Rattle.cbs_clients.specs.Houses.{ServesBy}
use Rattle.cbs_house.proofs.service.serve_metered.Given as goal

abbrev pub invariant-loop : goal.invariant-loop
invariant-loop g l =
    record {
      ready : Ready l.house l.feeds;
      feeds : KeepsFeeds l.initial.feeds l.feeds;
      steps : ServesBy g.W.Work.meaning g.M.Meter.may_tell l.initial.house l.house;
      rounds : MakesRounds g.W.Work.meaning g.M.Meter.may_tell l.counter l.initial.house l.initial.feeds l.house l.feeds;
      stalled : 0 < l.counter → IsStalled l.house l.feeds;
    }
