use Rattle.std.proofs.Common.{rules}
use Rattle.cbs_results.proofs.shelf.Shelf.hand_out.Goals as goal

pub returns-in_err-alloc-clause-refused : goal.returns-in_err-alloc-clause-refused
returns-in_err-alloc-clause-refused g c = search rules

pub returns-in_err-places-clause-refused : goal.returns-in_err-places-clause-refused
returns-in_err-places-clause-refused g c = search rules

pub returns-clause-handed : goal.returns-clause-handed
returns-clause-handed g c = search rules

pub returns-clause-ok : goal.returns-clause-ok
returns-clause-ok g c = search rules
