use Rattle.std.proofs.Common.{◌-◌}
use Rattle.cbs_clients.specs.Houses.{rings_of, ServesBy}
use Rattle.cbs_clients.specs.Clients.{IsOpened}
use Rattle.cbs_house.specs.Rounds.{Standing}
use Rattle.cbs_house.proofs.service.take_ring.Given as goal

abbrev pub invariant-loop : goal.invariant-loop
invariant-loop g l =
    record {
      steps : ServesBy g.W.Work.meaning g.M.Meter.may_tell l.fn.house l.house;
      opened : IsOpened (rings_of l.house) l.feed.client;
      standing : Standing l.house l.feed.client (l.end - l.counter);
    }
