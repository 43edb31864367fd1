use Rattle.std.proofs.Common.{◌≡◌, ◌-◌, ◌∙◌, ap, sym, subst, Some, None}
use Rattle.std.specs.Prelude.{min}
use Rattle.cbsrun_simulate.specs.Driving.{move_at}
use Rattle.cbsrun_simulate.specs.Loading.{loading, job_of}
use Rattle.cbsrun_simulate.specs.Moves.{pass}
use Rattle.cbsrun_simulate.specs.Simulating.{DoesMove}
use Rattle.cbsrun_simulate.proofs.Goes.{on_err, goes_at, stops_after}
use Rattle.cbsrun_simulate.proofs.driver.go_on.Goals as goal

pub returns-in_err-see-in-None-clause-stopped : goal.returns-in_err-see-in-None-clause-stopped
returns-in_err-see-in-None-clause-stopped g c = on_err c.from_residual.result (λ sim agrees until next.
    let at = goes_at loading job_of sim c.args.core.now c.args.stop None agrees (sym c.in-None.is ∙ c.span_if_idle.ensures sim.history agrees) in
    stops_after loading job_of g.V.View.saw g.V.View.failed until sim (move_at c.args.stop c.args.core.now) c.run-event.new.core _ _ _ _ _ next
    (subst (λ m. DoesMove loading job_of sim m c.run-event.new.core c.run-event.result.0 c.run-event.result.1) at (c.run-event.ensures sim agrees))
    c.seen_by.ensures c.in_err-see-in-None.ensures.failed)

pub returns-in_err-see-in-Some-clause-stopped : goal.returns-in_err-see-in-Some-clause-stopped
returns-in_err-see-in-Some-clause-stopped g c = on_err c.from_residual-in_err-see-in-Some.result (λ sim agrees until next.
    let at = goes_at loading job_of sim c.args.core.now c.args.stop (Some c.in-Some.span) agrees
    (sym c.in-Some.is ∙ c.span_if_idle.ensures sim.history agrees) in
    let is : c.min.result ≡ min c.in-Some.span (c.args.stop - c.args.core.now.clock) =
    c.min.ensures ∙ ap (λ n. min c.in-Some.span (c.args.stop - n)) c.now.ensures.clock in
    stops_after loading job_of g.V.View.saw g.V.View.failed until sim (move_at c.args.stop c.args.core.now) c.pass-event.new.core _ None _ _ _ next
    (subst (λ m. DoesMove loading job_of sim m c.pass-event.new.core c.pass-event.result None) (ap pass is ∙ at) (c.pass-event.ensures sim agrees))
    c.seen_by-in-Some.ensures c.in_err-see-in-Some.ensures.failed)
