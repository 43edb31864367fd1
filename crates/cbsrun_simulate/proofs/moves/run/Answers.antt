use Rattle.cbsrun_simulate.specs.Loading.{loading, job_of}
use Rattle.cbsrun_simulate.proofs.Goes.{runs}
use Rattle.cbsrun_simulate.proofs.Loads.{constant}
use Rattle.cbsrun_simulate.proofs.moves.run.Goals as goal

pub returns : goal.returns
returns g c = λ sim agrees.
    let makes = c.run-ran.ensures.makes in
    runs loading job_of constant sim _ _ c.run-ran.result c.owing.result agrees (makes.reply sim.history agrees)
    (makes.state sim.history agrees) c.run-ran.ensures.job c.owing.ensures
