use Rattle.std.proofs.Common.{refl, rules, min}
use Rattle.cbs_pace.specs.Paces.{time_to}
use Rattle.cbs_embed.specs.Paces.{EndsUnit}
use Rattle.cbs_embed.specs.Handles.{held_by}
use Rattle.cbs_embed.proofs.InHandles.{no_house, on_house}
use Rattle.cbs_embed.proofs.calls.done_measured.Goals as goal

pub returns-in_err-house_mut-clause-done : goal.returns-in_err-house_mut-clause-done
returns-in_err-house_mut-clause-done c = no_house (EndsUnit c.args.reading (min c.args.took (time_to c.args.reading c.args.pacer.now.pace)) c.args.pacer.now c.args.pacer.now) (held_by c.args.handle.now) c.in_err-house_mut.ensures.value
    (rw c.in_err-house_mut.was at c.house_mut.follows.holds-at-none) (search rules)

pub returns-clause-done : goal.returns-clause-done
returns-clause-done c = on_house (EndsUnit c.args.reading (min c.args.took (time_to c.args.reading c.args.pacer.now.pace)) c.args.pacer.now c.done_measured.new.pacer) c.in_ok-house_mut.ensures.value
    (c.house_mut.follows.holds c.done_measured.new.house (rw c.in_ok-house_mut.was refl)) c.done_measured.ensures
