use Rattle.cbsrun_simulate.specs.Loading.{loading, job_of}
use Rattle.cbsrun_simulate.proofs.Goes.{accepts}
use Rattle.cbsrun_simulate.proofs.moves.submit.Goals as goal

pub returns-in-Ok-submit-clause-moves : goal.returns-in-Ok-submit-clause-moves
returns-in-Ok-submit-clause-moves g c = λ sim agrees.
    rw c.arrival.ensures (accepts loading job_of sim c.args.release c.in-Ok.task _ _ c.in-Ok-submit.number c.promised.result agrees c.in-Ok.ensures.ok
    c.in-Ok-submit.ensures.tries c.promised.ensures.value)
