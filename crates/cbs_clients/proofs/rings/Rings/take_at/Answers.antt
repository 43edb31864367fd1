use Rattle.std.proofs.Common.{arith}
use Rattle.std.proofs.lemmas.Grind.{common_steps}
use Rattle.cbs_clients.proofs.RingLooks.{ringed}
use Rattle.cbs_clients.proofs.rings.Rings.take_at.Goals as goal

pub index_mut-end-requires : goal.index_mut-end-requires
index_mut-end-requires g c = grind (arith, common_steps)

pub pop_known-requires : goal.pop_known-requires
pop_known-requires g c = grind (arith, common_steps)

pub returns-clause-rings : goal.returns-clause-rings
returns-clause-rings g c = grind (arith, ringed)

pub returns-clause-received : goal.returns-clause-received
returns-clause-received g c = grind (arith, ringed)

pub returns-clause-known : goal.returns-clause-known
returns-clause-known g c = grind (arith, ringed)

pub returns-clause-others : goal.returns-clause-others
returns-clause-others g c = grind (arith, ringed)
