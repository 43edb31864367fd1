use Rattle.std.proofs.Common.{arith}
use Rattle.std.proofs.lemmas.Result.{IfOk-at_ok}
use Rattle.cbsrun_sweeps.specs.Sweeps.{AreJoined, AreSwept}
use Rattle.cbsrun_sweeps.proofs.Joins.{swept_together}
use Rattle.cbsrun_sweeps.proofs.sweep.+sweep.Goals as goal

pub returns : goal.returns
returns g t c =
    let later = c.in_ok-later.field-0.items in
    let together : AreJoined c.in_ok-servers.servers.items later c.join_all.new.sweeps.items = rw c.deref.ensures.value at c.join_all.ensures in
    swept_together c.args.name.now c.args.load.now c.args.first _ _ _ c.args.runs c.in_ok-servers.servers.items later _
    (IfOk-at_ok (λ v. AreSwept c.args.name.now c.args.load.now _ _ v.items) c.in_ok-servers.was c.join-earlier.ensures.first)
    (IfOk-at_ok (λ v. AreSwept c.args.name.now c.args.load.now _ _ v.items) c.in_ok-later.was c.join-earlier.ensures.second)
    together (omega arith) (omega arith)
