use Rattle.std.proofs.Common.{◌∙◌}
use Rattle.cbs_queues.proofs.ChainKeys.{within_lists, ends_read}
use Rattle.cbs_queues.proofs.ChainRooms.{room_here}
use Rattle.cbs_queues.proofs.ChainPushes.{tail_still_held, pushed_by, sound_pushed, lists_pushed}
use Rattle.cbs_queues.proofs.chains.Chains.push.Goals as goal

pub insert_reserved-key-requires : goal.insert_reserved-key-requires
insert_reserved-key-requires g c = room_here c.self.inside.nodes c.self.inside.ends.items c.args.server (rw (← c.self.view_is) at c.requires.room)

pub link-requires-clause-held : goal.link-requires-clause-held
link-requires-clause-held g c =
    let within = within_lists _ _ _ (rw (← c.self.view_is) at c.requires.within) in
    let read = ends_read _ _ _ _ c.from.ensures within c.index-ends.ensures in
    let insert = c.insert_reserved-key.ensures in
    rw read (tail_still_held _ _ _ _ _ c.self.invariant insert.was_vacant insert.updates.others)

pub invariant_of-self : goal.invariant_of-self
invariant_of-self g c =
    let within = within_lists _ _ _ (rw (← c.self.view_is) at c.requires.within) in
    let read = ends_read _ _ _ _ c.from.ensures within c.index-ends.ensures in
    let insert = c.insert_reserved-key.ensures in
    let pushed = pushed_by _ _ _ _ _ c.self.invariant insert.was_vacant insert.updates.others _ _ insert.updates.changed
    (rw read at c.link.ensures.slots) (c.link.ensures.len ∙ insert.len) in
    rw (c.from-2.ensures, c.link.ensures.ends, read) (sound_pushed _ _ _ _ _ _ c.self.invariant pushed within)

pub returns : goal.returns
returns g c =
    let within = within_lists _ _ _ (rw (← c.self.view_is) at c.requires.within) in
    let read = ends_read _ _ _ _ c.from.ensures within c.index-ends.ensures in
    let insert = c.insert_reserved-key.ensures in
    let pushed = pushed_by _ _ _ _ _ c.self.invariant insert.was_vacant insert.updates.others _ _ insert.updates.changed
    (rw read at c.link.ensures.slots) (c.link.ensures.len ∙ insert.len) in
    record {
      lists =
          rw (← c.self.view_is, c.from-2.ensures, c.link.ensures.ends, read)
          (lists_pushed _ _ _ _ _ _ c.self.invariant pushed within);
    }
