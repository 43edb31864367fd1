use Rattle.std.proofs.Common.{refl, sym}
use Rattle.cbs_clients.specs.Clients.{server_of}
use Rattle.cbs_clients.specs.Houses.{known}
use Rattle.cbs_clients.proofs.MadeSteps.{looks_received}
use Rattle.cbs_house.proofs.Feeds.{keeps_looked}
use Rattle.cbs_clients.proofs.RingLooks.{prefix_refl}
use Rattle.cbs_house.proofs.StandingMessages.{taken_same}
use Rattle.cbs_house.proofs.service.settle_feed.Goals as goal

pub returns-clause-feed : goal.returns-clause-feed
returns-clause-feed g c = keeps_looked c.args.feed.now _ c.settle.ensures.client.same c.settle.ensures.client.sent refl

pub returns-clause-standing : goal.returns-clause-standing
returns-clause-standing g c =
    record {
      rest = known c.settle.new.self (server_of c.settle.new.client);
      sent = c.settle.ensures.lawful;
      seen = prefix_refl _;
      count = sym c.settle.ensures.value;
    }

pub returns-clause-taken : goal.returns-clause-taken
returns-clause-taken g c =
    let s = c.settle in
    taken_same c.args.house.now s.new.self c.args.feed.now (record c.args.feed.now { client = s.new.client }) s.ensures.client.same.0 s.ensures.client.sent
    (looks_received c.args.house.now s.new.self s.ensures.looked)
