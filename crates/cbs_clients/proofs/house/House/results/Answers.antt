use Rattle.std.proofs.Common.{arith, refl}
use Rattle.cbs_clients.proofs.house.House.results.Goals as goal

pub returns-in-Some-clause-keeps : goal.returns-in-Some-clause-keeps
returns-in-Some-clause-keeps g c =
    let h = c.args.self.now.housed in
    let r = c.in-Some.ensures in
    rw r.1 (h.servers c.args.server (omega (arith, h.shelf_count, r.0)))

pub returns-in-Some-clause-ok : goal.returns-in-Some-clause-ok
returns-in-Some-clause-ok g c = let h = c.args.self.now.housed in let r = c.in-Some.ensures in (omega (arith, h.shelf_count, r.0), r.1)

pub returns-in-None-clause-error : goal.returns-in-None-clause-error
returns-in-None-clause-error g c = let h = c.args.self.now.housed in (refl, omega (arith, h.shelf_count, c.in-None.ensures))
