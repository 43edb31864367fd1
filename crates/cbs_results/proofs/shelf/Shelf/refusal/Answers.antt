use Rattle.std.proofs.Common.{rules}
use Rattle.cbs_results.proofs.shelf.Shelf.refusal.Goals as goal

pub returns : goal.returns
returns g c = search rules
