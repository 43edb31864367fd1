use Rattle.std.proofs.Common.{refl, rules}
use Rattle.cbs_embed.specs.Calls.{OpensTape}
use Rattle.cbs_embed.specs.Handles.{held_by}
use Rattle.cbs_embed.proofs.InHandles.{no_house, on_house}
use Rattle.cbs_embed.proofs.calls.open_tape.Goals as goal

pub returns-in_err-house_mut : goal.returns-in_err-house_mut
returns-in_err-house_mut c = no_house (OpensTape c.args.bytes) (held_by c.args.handle.now) c.in_err-house_mut.ensures.value
    (rw c.in_err-house_mut.was at c.house_mut.follows.holds-at-none) (search rules)

pub returns : goal.returns
returns c = on_house (OpensTape c.args.bytes) c.in_ok-house_mut.ensures.value
    (c.house_mut.follows.holds c.open_tape.new.house (rw c.in_ok-house_mut.was refl)) c.open_tape.ensures
