use Rattle.std.specs.List.{AllWithin}
use Rattle.cbs_house.specs.Feeds.{IsDone}
use Rattle.cbs_house.proofs.service.all_done.Given as goal

abbrev pub invariant-loop-feed : goal.invariant-loop-feed
invariant-loop-feed g l = AllWithin IsDone l.feeds 0 l.feed-index
