use Rattle.std.proofs.Common.{rules}
use Rattle.cbs_clients.proofs.client.Client.has_slot.Goals as goal

pub returns-then-self-lt18446744073709551615-clause-none : goal.returns-then-self-lt18446744073709551615-clause-none
returns-then-self-lt18446744073709551615-clause-none g c = search rules

pub returns-else-self-lt18446744073709551615-clause-none : goal.returns-else-self-lt18446744073709551615-clause-none
returns-else-self-lt18446744073709551615-clause-none g c = search rules
