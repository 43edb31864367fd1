use Rattle.std.proofs.Common.{◌≡◌, Some, drop}
use Rattle.cbsrun_sized.specs.Admitted.{plan_from, plan_of}
use Rattle.cbsrun_sized.proofs.admitted.plan_of.Given as goal

-- what is left to admit, from here on, ends as all of them do from the start
abbrev pub invariant-loop-proposal : goal.invariant-loop-proposal
invariant-loop-proposal l = plan_from (Some l.plan) (drop l.proposal-index l.proposals) ≡ plan_of l.fn.bound l.proposals
