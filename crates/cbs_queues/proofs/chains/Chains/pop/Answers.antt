use Rattle.std.proofs.Common.{length-set}
use Rattle.cbs_queues.proofs.ChainKeys.{within_list, ends_read}
use Rattle.cbs_queues.proofs.ChainRooms.{rooms_kept}
use Rattle.cbs_queues.proofs.ChainPops.{head_held, first_value, sound_popped, lists_popped}
use Rattle.cbs_queues.proofs.chains.Chains.pop.Goals as goal

pub remove-node-requires : goal.remove-node-requires
remove-node-requires g c =
    let some = rw (← c.self.view_is) at c.requires.some in
    let read = ends_read _ _ _ _ c.from.ensures (within_list _ _ _ some) c.index_mut-ends.ensures.value in
    rw read (head_held _ _ _ c.self.invariant some)

pub invariant_of-self : goal.invariant_of-self
invariant_of-self g c =
    let some = rw (← c.self.view_is) at c.requires.some in
    let read = ends_read _ _ _ _ c.from.ensures (within_list _ _ _ some) c.index_mut-ends.ensures.value in
    rw (c.from.ensures, read)
    (sound_popped _ _ _ c.self.invariant some _ _ (rw read at c.remove-node.ensures.value)
    (rw read at c.remove-node.ensures.updates.others) c.remove-node.ensures.len)

pub returns-clause-value : goal.returns-clause-value
returns-clause-value g c =
    let some = rw (← c.self.view_is) at c.requires.some in
    let read = ends_read _ _ _ _ c.from.ensures (within_list _ _ _ some) c.index_mut-ends.ensures.value in
    rw (← c.self.view_is) (first_value _ _ _ c.self.invariant some _ (rw read at c.remove-node.ensures.value))

pub returns-clause-lists : goal.returns-clause-lists
returns-clause-lists g c =
    let some = rw (← c.self.view_is) at c.requires.some in
    let read = ends_read _ _ _ _ c.from.ensures (within_list _ _ _ some) c.index_mut-ends.ensures.value in
    rw (← c.self.view_is, c.from.ensures, read)
    (lists_popped _ _ _ c.self.invariant some _ _ (rw read at c.remove-node.ensures.value)
    (rw read at c.remove-node.ensures.updates.others))

pub returns-clause-kept : goal.returns-clause-kept
returns-clause-kept g c =
    rw (← c.self.view_is)
    (rooms_kept c.self.inside.nodes c.remove-node.new.self _ _ (length-set _ _ _) (λ _. c.remove-node.ensures.room))
