use Rattle.std.proofs.Common.{rules}
use Rattle.cbs_clients.proofs.client.Client.ring_has_slot.Goals as goal

pub returns-then-cached_slots-gt1-clause-slot : goal.returns-then-cached_slots-gt1-clause-slot
returns-then-cached_slots-gt1-clause-slot g c = search rules

pub returns-else-cached_slots-gt1-clause-slot : goal.returns-else-cached_slots-gt1-clause-slot
returns-else-cached_slots-gt1-clause-slot g c = search rules
