use Rattle.std.proofs.Common.{refl, arith}
use Rattle.std.proofs.lemmas.Grind.{elements}
use Rattle.std.proofs.lemmas.List.{length-map}
use Rattle.cbs_clients.specs.Rings.{consumer_ring}
use Rattle.cbs_clients.proofs.RingLooks.{looked_by, still_quiet}
use Rattle.cbs_clients.proofs.rings.Rings.beside.Goals as goal

pub slots_beside-slots-requires : goal.slots_beside-slots-requires
slots_beside-slots-requires g c = grind (arith, elements)

pub invariant_of-self-else-slots-gt0-clause-quiet : goal.invariant_of-self-else-slots-gt0-clause-quiet
invariant_of-self-else-slots-gt0-clause-quiet g c =
    let a = c.args.self.now in
    still_quiet a.marked a.ends.items c.args.server c.slots_beside-slots.new.self (omega (arith, length-map a.ends.items consumer_ring, c.requires.within))
    a.quiet (omega (arith, c.slots_beside-slots.ensures.value, c.if-slots-gt0.false))

pub returns-then-slots-gt0-clause-looked : goal.returns-then-slots-gt0-clause-looked
returns-then-slots-gt0-clause-looked g c =
    looked_by c.args.self.now _ c.args.server c.slots_beside-slots.new.self c.index_mut-end.result.now c.requires.within c.index_mut-end.ensures.value
    c.slots_beside-slots.ensures.looked refl

pub returns-else-slots-gt0-clause-looked : goal.returns-else-slots-gt0-clause-looked
returns-else-slots-gt0-clause-looked g c =
    looked_by c.args.self.now _ c.args.server c.slots_beside-slots.new.self c.index_mut-end.result.now c.requires.within c.index_mut-end.ensures.value
    c.slots_beside-slots.ensures.looked refl
