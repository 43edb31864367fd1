use Rattle.std.proofs.Common.{refl, arith}
use Rattle.std.proofs.lemmas.List.{length-map}
use Rattle.cbs_clients.specs.Rings.{consumer_ring}
use Rattle.cbs_clients.proofs.RingLooks.{looked_by, still_quiet}
use Rattle.cbs_clients.proofs.rings.Rings.is_empty.Goals as goal

pub invariant_of-self-else-not-empty-clause-quiet : goal.invariant_of-self-else-not-empty-clause-quiet
invariant_of-self-else-not-empty-clause-quiet g c =
    let a = c.args.self.now in
    still_quiet a.marked a.ends.items c.args.server c.is_empty-empty.new.self (omega (arith, length-map a.ends.items consumer_ring, c.requires))
    a.quiet (c.is_empty-empty.ensures.value.0 c.if-not-empty.false)

pub returns-then-not-empty-clause-looked : goal.returns-then-not-empty-clause-looked
returns-then-not-empty-clause-looked g c =
    looked_by c.args.self.now _ c.args.server c.is_empty-empty.new.self c.index_mut-end.result.now c.requires c.index_mut-end.ensures.value
    c.is_empty-empty.ensures.looked refl

pub returns-else-not-empty-clause-looked : goal.returns-else-not-empty-clause-looked
returns-else-not-empty-clause-looked g c =
    looked_by c.args.self.now _ c.args.server c.is_empty-empty.new.self c.index_mut-end.result.now c.requires c.index_mut-end.ensures.value
    c.is_empty-empty.ensures.looked refl
