use Rattle.std.proofs.Common.{refl, rules, min}
use Rattle.cbs_pace.specs.Paces.{time_to}
use Rattle.cbs_embed.specs.Paces.{Asks}
use Rattle.cbs_embed.specs.Handles.{held_by}
use Rattle.cbs_embed.proofs.InHandles.{no_house, on_house}
use Rattle.cbs_embed.proofs.calls.next_measured.Goals as goal

pub returns-in_err-house_mut-clause-next : goal.returns-in_err-house_mut-clause-next
returns-in_err-house_mut-clause-next c = no_house (Asks c.args.reading (min c.args.took (time_to c.args.reading c.args.pacer.now.pace)) c.args.pacer.now c.args.pacer.now) (held_by c.args.handle.now) c.in_err-house_mut.ensures.value
    (rw c.in_err-house_mut.was at c.house_mut.follows.holds-at-none) (search rules)

pub returns-clause-next : goal.returns-clause-next
returns-clause-next c = on_house (Asks c.args.reading (min c.args.took (time_to c.args.reading c.args.pacer.now.pace)) c.args.pacer.now c.next_measured.new.pacer) c.in_ok-house_mut.ensures.value
    (c.house_mut.follows.holds c.next_measured.new.house (rw c.in_ok-house_mut.was refl)) c.next_measured.ensures
