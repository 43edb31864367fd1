use Rattle.std.proofs.Common.{◌≡◌, false, sym, ◌∙◌, rules, arith}
use Rattle.std.proofs.lemmas.Grind.{common_steps}
use Rattle.std.proofs.lemmas.List.{get_or_read}
use Rattle.cbs_steps.specs.Faces.{no_face, face_at, is_active}
use Rattle.cbs_core.proofs.ReadyServers.{lists_set}
use Rattle.cbs_core.proofs.Waiting.{keeps_noted}
use Rattle.cbs_steps.proofs.Waiting.{wake_idle}
use Rattle.cbs_core.proofs.servers.Servers.accept_first.Goals as goal

pub invariant_of-self : goal.invariant_of-self
invariant_of-self g c =
    let fs = c.self.inside.servers.items in
    let x = c.index_mut-it.result.now in
    let f = c.enter.ensures in
    let within = rw (← c.self.view_is) at c.requires.within in
    let read = rw c.from.ensures at c.index_mut-it.ensures.value in
    let here : face_at fs c.args.server ≡ x = sym (get_or_read fs c.args.server x within read no_face) in
    let idle : is_active x ≡ false = rw here at (rw (← c.self.view_is) at c.requires.idle) in (
      search rules,
      rw c.from.ensures (lists_set _ _ _ _ _ c.self.invariant.1 within f.ordered (f.here ∙ c.accept_first-ready_by.ensures.ready) f.others),
      rw c.from.ensures (keeps_noted _ _ _ _ _ _ c.self.invariant.2 within read (wake_idle x idle) c.note.ensures),
    )

pub accept_first-ready_by-requires-clause-idle : goal.accept_first-ready_by-requires-clause-idle
accept_first-ready_by-requires-clause-idle g c = grind (arith, common_steps)

pub accept_first-ready_by-requires-clause-few : goal.accept_first-ready_by-requires-clause-few
accept_first-ready_by-requires-clause-few g c = grind (arith, common_steps)

pub returns-clause-number : goal.returns-clause-number
returns-clause-number g c = grind (arith, common_steps)
