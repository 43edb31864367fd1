use Rattle.std.proofs.Common.{refl, rules}
use Rattle.cbs_core.proofs.ReadyServers.{lists_same}
use Rattle.cbs_core.proofs.Waiting.{keeps_same}
use Rattle.cbs_core.proofs.servers.Servers.close.Goals as goal

pub invariant_of-self : goal.invariant_of-self
invariant_of-self g c =
    let within = rw (← c.self.view_is) at c.requires in
    let read = rw c.from.ensures at c.index_mut.ensures.value in (
      search rules,
      rw c.from.ensures (lists_same _ _ _ _ _ c.self.invariant.1 within read (rw c.close.ensures refl)),
      rw c.from.ensures (keeps_same _ _ _ _ _ c.self.invariant.2 within read (rw c.close.ensures refl) (rw c.close.ensures refl)),
    )
