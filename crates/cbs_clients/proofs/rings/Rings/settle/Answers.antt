use Rattle.std.proofs.Common.{arith, rules}
use Rattle.std.proofs.lemmas.Grind.{elements}
use Rattle.cbs_clients.proofs.rings.Rings.settle.Goals as goal

pub beside-requires-clause-within : goal.beside-requires-clause-within
beside-requires-clause-within g c = grind (arith, elements)

pub returns-clause-lawful : goal.returns-clause-lawful
returns-clause-lawful g c = search rules
