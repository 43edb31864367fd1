-- A worked example of jobs as their units, computed from the definitions.
use Rattle.std.proofs.Common.{◌≡◌, ℕ, List, [], ◌∷◌, map, refl}
use Rattle.cbs_job.specs.Numbers.{Progress, summing}
use Rattle.cbs_rate.specs.Rate.{Rate}
use Rattle.cbs_rules.specs.declared.mode.Mode.TheVariants.{Soft}
use Rattle.cbs_steps.specs.History.{Setup, History, ticks}
use Rattle.cbs_steps.specs.Laws.{replies_after}
use Rattle.cbs_steps.specs.declared.error.CoreError.TheVariants as error
use Rattle.cbs_steps.specs.declared.reply.Ran.TheVariants as ran
use Rattle.cbs_steps.specs.declared.reply.Reply.TheVariants as reply
use Rattle.cbs_steps.specs.declared.step.Step.{Step}
use Rattle.cbs_steps.specs.declared.step.Step.TheVariants.{Submit, Run, Charge}
use Rattle.cbs_units.specs.Counting.{counting, counted_step, counted_history}

abbrev rate : ℕ → ℕ → Rate
rate q t = record { budget = q; period = t }

-- two soft servers, with 2 ticks in 4 and 1 tick in 4, and room for one job each
abbrev two : Setup
two = record { servers = record { mode = Soft; reservation = rate 2 4 } ∷ record { mode = Soft; reservation = rate 1 4 } ∷ []; backlog = 1 }

abbrev none : History Progress
none = record { setup = two; steps = [] }

abbrev sum : List ℕ → Progress
sum numbers = record { numbers = numbers; output = 0 }

-- server 0 is to add 3 and 4 up, server 1 only 9, and for one more job of server 1 there is no room. Server 0 is charged
-- 2 ticks for its last unit
abbrev steps : List (Step Progress)
steps = Submit 0 (sum (3 ∷ 4 ∷ [])) ∷ Submit 1 (sum (9 ∷ [])) ∷ Submit 1 (sum (5 ∷ [])) ∷ Run ∷ Run ∷ Charge 0 2 ∷ Run ∷ []

sums : replies_after summing none steps
    ≡ reply.Accepted 0
    ∷ reply.Accepted 0
    ∷ reply.NotAccepted (record { error = error.BacklogFull; task = sum (5 ∷ []) })
    ∷ reply.Ran (ran.Unit 0 0)
    ∷ reply.Ran (ran.Done (record { server = 0; seq = 0; result = 7 }))
    ∷ reply.Charged
    ∷ reply.Ran (ran.Done (record { server = 1; seq = 0; result = 9 }))
    ∷ []
unfolding ticks
sums = refl

-- as their units the jobs have 2 units, 1 and 1, and the same steps are answered the same, but for the results
counts : replies_after counting (counted_history summing none) (map (counted_step summing) steps)
    ≡ reply.Accepted 0
    ∷ reply.Accepted 0
    ∷ reply.NotAccepted (record { error = error.BacklogFull; task = record { units = 1 } })
    ∷ reply.Ran (ran.Unit 0 0)
    ∷ reply.Ran (ran.Done (record { server = 0; seq = 0; result = 0 }))
    ∷ reply.Charged
    ∷ reply.Ran (ran.Done (record { server = 1; seq = 0; result = 0 }))
    ∷ []
unfolding ticks
counts = refl
