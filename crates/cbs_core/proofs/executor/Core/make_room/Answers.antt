use Rattle.std.proofs.Common.{rules, refl, arith}
use Rattle.std.proofs.lemmas.Grind.{elements}
use Rattle.cbs_core.proofs.Cores.{queue_there}
use Rattle.cbs_core.proofs.Refusals.{free_accepts, accepts_free}
use Rattle.cbs_core.proofs.executor.Core.make_room.Goals as goal

pub returns-in-Some-clause-succeeds : goal.returns-in-Some-clause-succeeds
returns-in-Some-clause-succeeds g c = λ room.
    let refused = c.in-Some.ensures in
    let free = accepts_free c.self.view_is c.args.server room.accepts in
    cc

pub reserve-requires : goal.reserve-requires
reserve-requires g c = queue_there c.self.invariant c.args.server c.in_default.ensures

pub returns-then-is_err-clause-refused : goal.returns-then-is_err-clause-refused
returns-then-is_err-clause-refused g c = free_accepts c.self.view_is c.args.server c.in_default.ensures

pub returns-clause-room : goal.returns-clause-room
returns-clause-room g c = record { accepts = free_accepts refl c.args.server c.in_default.ensures; room = search rules }

pub returns-in-Some-clause-refused : goal.returns-in-Some-clause-refused
returns-in-Some-clause-refused g c = grind (arith, elements)
