use Rattle.std.proofs.Common.{◌≡◌, ◌+◌, ◌*◌, ◌≤◌, take}
use Rattle.cbs_house.specs.Feeds.{all_unsent}
use Rattle.cbs_house.proofs.service.rounds_for.Given as goal

abbrev pub invariant-loop-feed : goal.invariant-loop-feed
invariant-loop-feed g l = record { sum : l.rounds ≡ all_unsent (take l.feed-index l.feeds) + 1; most : l.rounds ≤ 18446744073709551616 * l.feed-index + 1 }
