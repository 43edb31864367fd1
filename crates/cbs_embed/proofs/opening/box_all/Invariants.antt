use Rattle.std.proofs.Common.{◌≡◌, ◌++◌, length, map, Some}
use Rattle.std.specs.Vec.Iter.{into_iter_items, into_iter_len}
use Rattle.cbs_embed.specs.declared.held.Held.TheVariants.{Client}
use Rattle.cbs_embed.proofs.opening.box_all.Given as goal

abbrev pub invariant-loop-client : goal.invariant-loop-client
invariant-loop-client l = record {
  can : goal.iterator-loop-client.can_next l.client-iterator;
  finite : goal.iterator-loop-client.is_finite l.client-iterator;
  count : into_iter_len l.client-iterator ≡ length (into_iter_items l.client-iterator);
  boxed : map (λ b. Some b.value) l.boxes.items ++ map (λ c. Some (Client c)) (into_iter_items l.client-iterator)
      ≡ map (λ c. Some (Client c)) l.fn.clients.items;
}
