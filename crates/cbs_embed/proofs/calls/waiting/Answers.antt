use Rattle.std.proofs.Common.{refl, rules}
use Rattle.cbs_embed.specs.Calls.{Waits}
use Rattle.cbs_embed.specs.Handles.{held_by}
use Rattle.cbs_embed.proofs.InHandles.{no_client, on_client}
use Rattle.cbs_embed.proofs.calls.waiting.Goals as goal

pub returns-in_err-client_mut : goal.returns-in_err-client_mut
returns-in_err-client_mut c = no_client Waits (held_by c.args.handle.now) c.in_err-client_mut.ensures.value
    (rw c.in_err-client_mut.was at c.client_mut.follows.holds-at-none) (search rules)

pub returns : goal.returns
returns c = on_client Waits c.in_ok-client_mut.ensures.value
    (c.client_mut.follows.holds c.waiting.new.client (rw c.in_ok-client_mut.was refl)) c.waiting.ensures
