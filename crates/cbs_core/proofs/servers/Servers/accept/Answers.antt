use Rattle.std.proofs.Common.{◌≡◌, refl, sym, ◌∙◌, rules, arith}
use Rattle.std.proofs.lemmas.Grind.{common_steps}
use Rattle.std.proofs.lemmas.Bool.Decides.{nat_tests}
use Rattle.cbs_steps.specs.Faces.{is_active, with_job}
use Rattle.cbs_steps.proofs.Faces.{ready_behind}
use Rattle.cbs_core.proofs.ReadyServers.{lists_same}
use Rattle.cbs_core.proofs.Waiting.{keeps_same}
use Rattle.cbs_core.proofs.servers.Servers.accept.Goals as goal

pub invariant_of-self : goal.invariant_of-self
invariant_of-self g c =
    let x = c.index_mut-it.result.now in
    let now = c.args.now in
    let face = c.accept_behind.ensures.face now in
    let within = rw (← c.self.view_is) at c.requires.within in
    let read = rw c.from.ensures at c.index_mut-it.ensures.value in
    let active = sym c.is_active.ensures ∙ c.if-is_active.true in
    let still : is_active (with_job now x) ≡ is_active x = grind (arith, nat_tests) in (
      search rules,
      rw c.from.ensures (lists_same _ _ _ _ _ c.self.invariant.1 within read (rw face (ready_behind now x active))),
      rw (c.from.ensures, face) (keeps_same _ _ _ _ _ c.self.invariant.2 within read (rw active refl) still),
    )

pub accept_behind-requires-clause-few : goal.accept_behind-requires-clause-few
accept_behind-requires-clause-few g c = grind (arith, common_steps)

pub returns-then-is_active-clause-number : goal.returns-then-is_active-clause-number
returns-then-is_active-clause-number g c = grind (arith, common_steps)

pub invariant_of-self-2 : goal.invariant_of-self-2
invariant_of-self-2 g c = grind (arith, common_steps)

pub accept_first-requires-clause-few : goal.accept_first-requires-clause-few
accept_first-requires-clause-few g c = grind (arith, common_steps)

pub returns-clause-servers : goal.returns-clause-servers
returns-clause-servers g c = grind (arith, common_steps)

pub returns-clause-number : goal.returns-clause-number
returns-clause-number g c = grind (arith, common_steps)
