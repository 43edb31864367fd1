use Rattle.std.proofs.Common.{◌≡◌, ◌+◌, ◌≤◌, length}
use Rattle.cbs_clients.specs.Clients.{sent_by}
use Rattle.cbs_house.specs.Feeds.{KeepsFeed}
use Rattle.cbs_house.proofs.senders.send_turns.Given as goal

abbrev pub invariant-loop : goal.invariant-loop
invariant-loop g l =
    record {
      kept : KeepsFeed l.initial.feed l.feed;
      count : length (sent_by l.feed.client) ≡ length (sent_by l.initial.feed.client) + l.sent;
      most : l.sent ≤ l.counter;
    }
