use Rattle.std.proofs.Common.{◌≡◌, ◌-◌, ◌∙◌, ap, subst, None}
use Rattle.std.specs.Prelude.{min}
use Rattle.cbsrun_simulate.specs.Loading.{loading, job_of}
use Rattle.cbsrun_simulate.specs.Moves.{charge}
use Rattle.cbsrun_simulate.specs.Simulating.{DoesMove}
use Rattle.cbsrun_simulate.proofs.Goes.{on_err_with, on_ok_with, sees, stops_after}
use Rattle.cbsrun_simulate.proofs.driver.charge_owed.Goals as goal

pub returns-clause-stopped : goal.returns-clause-stopped
returns-clause-stopped g c = on_err_with c.see.result (λ fails sim agrees until next.
    let is : c.min.result ≡ min c.args.owed.ticks (c.args.until - c.args.core.now.clock) =
    c.min.ensures ∙ ap (λ n. min c.args.owed.ticks (c.args.until - n)) c.now.ensures.clock in
    stops_after loading job_of g.V.View.saw g.V.View.failed until sim _ c.charge-event.new.core _ None _ _ _ next
    (subst (λ n. DoesMove loading job_of sim (charge c.args.owed.server n) c.charge-event.new.core c.charge-event.result None) is
    (c.charge-event.ensures sim agrees)) c.seen_by.ensures fails) c.see.ensures.failed

pub returns-clause-makes : goal.returns-clause-makes
returns-clause-makes g c = on_ok_with c.see.result (λ saw sim agrees.
    let is : c.min.result ≡ min c.args.owed.ticks (c.args.until - c.args.core.now.clock) =
    c.min.ensures ∙ ap (λ n. min c.args.owed.ticks (c.args.until - n)) c.now.ensures.clock in
    sees loading job_of g.V.View.saw sim _ c.charge-event.new.core _ None _ _ _
    (subst (λ n. DoesMove loading job_of sim (charge c.args.owed.server n) c.charge-event.new.core c.charge-event.result None) is
    (c.charge-event.ensures sim agrees)) c.seen_by.ensures saw) c.see.ensures.saw
