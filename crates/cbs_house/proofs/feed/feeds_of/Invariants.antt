use Rattle.std.proofs.Common.{◌≡◌, ◌≤◌, ◌+◌, ◌++◌, length, map, vec_capacity}
use Rattle.std.specs.Vec.Iter.{into_iter_items, into_iter_len}
use Rattle.cbs_house.specs.Feeds.{client_of, unsent_jobs}
use Rattle.cbs_house.proofs.feed.feeds_of.Given as goal

abbrev pub invariant-loop-client : goal.invariant-loop-client
invariant-loop-client g l = record {
  can : (goal.iterator-loop-client g).can_next l.client-iterator;
  finite : (goal.iterator-loop-client g).is_finite l.client-iterator;
  count : into_iter_len l.client-iterator ≡ length (into_iter_items l.client-iterator);
  room : length l.feeds.items + length (into_iter_items l.client-iterator) ≤ vec_capacity l.feeds;
  same : length l.lists.items ≡ length (into_iter_items l.client-iterator);
  clients : map client_of l.feeds.items ++ into_iter_items l.client-iterator ≡ l.fn.clients.items;
  jobs : map unsent_jobs l.feeds.items ++ map (λ jobs. jobs.items) l.lists.items ≡ map (λ jobs. jobs.items) l.fn.lists.items;
}
