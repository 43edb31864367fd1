use Rattle.std.proofs.Common.{◌+◌, ◌-◌, ◌≤◌, ◌<◌}
use Rattle.cbs_rate.specs.Limits.{longest_period}
use Rattle.cbs_rate.specs.Rate.{IsRate}
use Rattle.cbsrun_proposals.specs.Proposals.{rate, IsEnough, IsNotEnough}
use Rattle.cbsrun_proposals.proofs.proposal.longest.Given as goal

abbrev pub invariant-loop-beyond : goal.invariant-loop-beyond
invariant-loop-beyond l =
    (l.found < l.beyond) × (l.beyond ≤ longest_period + 1) × (IsRate l.fn.budget l.found × IsEnough l.fn.sources l.fn.wanted (rate l.fn.budget l.found))
    × (IsRate l.fn.budget l.beyond → IsNotEnough l.fn.sources l.fn.wanted (rate l.fn.budget l.beyond))

abbrev pub decreases-loop-beyond : goal.decreases-loop-beyond
decreases-loop-beyond l = l.beyond - l.found
