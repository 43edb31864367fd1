use Rattle.std.proofs.Common.{◌≡◌, drop, sym, ◌∙◌, arith}
use Rattle.std.proofs.lemmas.Grind.{common_steps}
use Rattle.cbs_ready.proofs.Ordered.{drop-removed}
use Rattle.cbs_ready.proofs.entries.Entries.remove.Goals as goal

pub returns-then-place-len : goal.returns-then-place-len
returns-then-place-len g c =
    let slots = c.self.inside.slots.items in
    let first = c.self.inside.first in
    let here : drop first slots ≡ c.args.self.now = c.self.view_is in
    let rest = rw c.as_slice.ensures at c.place_of-place.ensures.rest in
    rw c.remove.ensures.items (drop-removed slots first c.place_of-place.result ∙ rw here (sym rest))

pub remove-requires : goal.remove-requires
remove-requires g c = grind (arith, common_steps)

pub invariant_of-self : goal.invariant_of-self
invariant_of-self g c = grind (arith, common_steps)

pub returns-else-place-len : goal.returns-else-place-len
returns-else-place-len g c = grind (arith, common_steps)
