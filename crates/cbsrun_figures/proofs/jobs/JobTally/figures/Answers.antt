use Rattle.std.proofs.Common.{ap, ◌∙◌}
use Rattle.cbsrun_figures.specs.Figures.{waiting, newest, greatest_backlog, settled}
use Rattle.cbsrun_figures.specs.Tallies.{jobs_settled}
use Rattle.cbsrun_figures.proofs.JobSteps.{tally_settled}
use Rattle.cbsrun_figures.proofs.jobs.JobTally.figures.Goals as goal

pub returns : goal.returns
returns g c = λ budget own is sums throttled_ticks.
    c.settled_figures.ensures budget own
    (c.in_ok-settle.ensures
    ∙ (ap (λ t. jobs_settled t.newest t) is ∙ tally_settled (waiting own) (newest own) (greatest_backlog own) (settled own))) sums throttled_ticks
