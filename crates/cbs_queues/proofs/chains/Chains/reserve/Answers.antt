use Rattle.std.proofs.Common.{refl}
use Rattle.std.proofs.lemmas.Result.{on_ok_weaker}
use Rattle.slab.specs.Slab.{HasRoomFor}
use Rattle.cbs_queues.proofs.ChainKeys.{within_lists}
use Rattle.cbs_queues.proofs.ChainRooms.{room_there, room_here, rooms_kept}
use Rattle.cbs_queues.proofs.chains.Chains.reserve.Goals as goal

pub returns-clause-room : goal.returns-clause-room
returns-clause-room g c =
    let within = within_lists _ _ _ (rw (← c.self.view_is) at c.requires) in
    on_ok_weaker _ (λ (has : HasRoomFor c.reserve.new.self 1). room_there c.reserve.new.self _ _ within has) c.reserve.ensures.room

pub returns-clause-kept : goal.returns-clause-kept
returns-clause-kept g c =
    rw (← c.self.view_is)
    (rooms_kept c.self.inside.nodes c.reserve.new.self _ _ refl (λ has. rw (c.reserve.ensures.had_room has) has))

pub returns-clause-succeeds : goal.returns-clause-succeeds
returns-clause-succeeds g c = λ has.
    c.reserve.ensures.succeeds (room_here c.self.inside.nodes c.self.inside.ends.items c.args.server (rw (← c.self.view_is) at has))
