use Rattle.std.proofs.Common.{refl, rules}
use Rattle.cbs_embed.specs.Calls.{HandsOutTape}
use Rattle.cbs_embed.specs.Handles.{held_by}
use Rattle.cbs_embed.proofs.InHandles.{no_house, on_house}
use Rattle.cbs_embed.proofs.calls.take_tape.Goals as goal

pub returns-in_err-house_mut-clause-taken : goal.returns-in_err-house_mut-clause-taken
returns-in_err-house_mut-clause-taken c = no_house (HandsOutTape c.args.out.now _) (held_by c.args.handle.now) c.in_err-house_mut.ensures.value
    (rw c.in_err-house_mut.was at c.house_mut.follows.holds-at-none) (search rules)

pub returns-clause-taken : goal.returns-clause-taken
returns-clause-taken c = on_house (HandsOutTape c.args.out.now _) c.in_ok-house_mut.ensures.value
    (c.house_mut.follows.holds c.take_tape.new.house (rw c.in_ok-house_mut.was refl)) c.take_tape.ensures
