use Rattle.cbsrun_simulate.specs.Loading.{loading, job_of}
use Rattle.cbsrun_simulate.proofs.Goes.{on_err, on_ok_with, on_err_with, sees, stops_first, stops_after}
use Rattle.cbsrun_simulate.proofs.driver.submit_first.Goals as goal

pub returns-clause-stopped : goal.returns-clause-stopped
returns-clause-stopped g c =
    on_err_with c.see.result (λ fails sim agrees until next.
    stops_after loading job_of g.V.View.saw g.V.View.failed until sim _ c.submit.new.core _ _ _ _ _ next (c.in_ok-event.ensures.moves sim agrees)
    c.seen_by.ensures fails) c.see.ensures.failed

pub returns-clause-makes : goal.returns-clause-makes
returns-clause-makes g c =
    on_ok_with c.see.result (λ saw sim agrees.
    sees loading job_of g.V.View.saw sim _ c.submit.new.core _ _ _ _ _ (c.in_ok-event.ensures.moves sim agrees) c.seen_by.ensures saw)
    c.see.ensures.saw

pub returns-in_err-event-clause-stopped : goal.returns-in_err-event-clause-stopped
returns-in_err-event-clause-stopped g c =
    on_err c.from_residual.result (λ sim agrees until next.
    stops_first loading job_of g.V.View.saw g.V.View.failed until sim _ _ (c.in_err-event.ensures.unchanged sim.history agrees))
