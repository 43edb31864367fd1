use Rattle.std.proofs.Common.{◌≡◌, ◌∙◌, ◌<◌, true, length, rules, refl, sym, ap}
use Rattle.std.proofs.lemmas.List.{get_or_read}
use Rattle.cbs_steps.specs.Faces.{no_face, is_active, ready_by}
use Rattle.cbs_core.specs.Held.{with_job_ended}
use Rattle.cbs_core.proofs.ReadyServers.{lists_same}
use Rattle.cbs_core.proofs.Waiting.{keeps_same}
use Rattle.cbs_core.proofs.servers.Servers.end_job.Goals as goal

pub invariant_of-self : goal.invariant_of-self
invariant_of-self g c =
    let x = c.index_mut-it.result.now in
    let fs = c.self.inside.servers.items in
    let read = rw c.from.ensures at c.index_mut-it.ensures.value in
    let lt : c.args.server < length fs = rw (← c.self.view_is) at c.requires.within in
    let was : is_active x ≡ true = ap is_active (get_or_read fs c.args.server x lt read no_face) ∙ rw (← c.self.view_is) at c.requires.active in
    let is : is_active (with_job_ended x) ≡ true = rw c.end_job.ensures at (sym c.is_active.ensures ∙ c.if-is_active.true) in
    let same : ready_by (with_job_ended x) ≡ ready_by x = rw (was, is) refl in (
      search rules,
      rw (c.from.ensures, c.end_job.ensures) (lists_same fs c.self.inside.ready c.args.server x (with_job_ended x) c.self.invariant.1 lt read same),
      rw (c.from.ensures, c.end_job.ensures) (keeps_same c.self.inside.waits fs c.args.server x (with_job_ended x) c.self.invariant.2 lt read refl (is ∙ sym was)),
    )
