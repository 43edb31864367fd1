-- Worked examples of a job that ends early, computed from the definitions. A job is the number of its units.
use Rattle.std.proofs.Common.{◌≡◌, ℕ, ◌-◌, List, [], ◌∷◌, Option, Some, refl}
use Rattle.cbs_job.specs.Work.{Meaning}
use Rattle.cbs_rate.specs.Rate.{Rate}
use Rattle.cbs_rules.specs.declared.mode.Mode.TheVariants.{Soft}
use Rattle.cbs_steps.specs.Accounts.{finished}
use Rattle.cbs_steps.specs.History.{Setup, History, account, ticks, world_after}
use Rattle.cbs_steps.specs.Laws.{account_in}
use Rattle.cbs_steps.specs.Promises.{when, owed, promised}
use Rattle.cbs_steps.specs.declared.reply.Ran.TheVariants as ran
use Rattle.cbs_steps.specs.declared.reply.Reply.TheVariants as reply
use Rattle.cbs_steps.specs.declared.step.Step.{Step}
use Rattle.cbs_steps.specs.declared.step.Step.TheVariants.{Submit, Run, Advance, Charge}
use Rattle.cbs_hindsight.specs.Hindsight.{ending, hindsight, replies}

-- work that is nothing but its units; n units of it are a job of n units
abbrev units : Meaning ℕ
units = record { left = λ n. n; output = λ n. 0; after = λ n. n - 1 }

abbrev shortened : ℕ → ℕ → ℕ
shortened n job = n

abbrev rate : ℕ → ℕ → Rate
rate q t = record { budget = q; period = t }

-- two soft servers, with 2 ticks in 4 and 1 tick in 4
abbrev two : Setup
two = record { servers = record { mode = Soft; reservation = rate 2 4 } ∷ record { mode = Soft; reservation = rate 1 4 } ∷ []; backlog = 4 }

-- both servers got a job, and that of server 0, of 5 units, got two units. The second is charged 3 ticks more
abbrev begun : History ℕ
begun = record { setup = two; steps = Charge 0 3 ∷ Run ∷ Run ∷ Submit 1 3 ∷ Submit 0 5 ∷ [] }

-- the job of server 0 ends there
abbrev ended : History ℕ
ended = hindsight units shortened (ending units begun 0 0) begun

-- in hindsight it was a job of 2 units
steps : ended.steps ≡ Charge 0 3 ∷ Run ∷ Run ∷ Submit 1 3 ∷ Submit 0 2 ∷ []
unfolding ticks
steps = refl

-- of a server: its jobs, how many are finished, the units that it got, and its budget, deadline and charges
abbrev seen : History ℕ → ℕ → List ℕ × ℕ × List ℕ
seen N s =
    let a = account (world_after units N).accounts s in
    (a.accepted, finished units a, a.got ∷ a.state.budget ∷ a.state.deadline ∷ a.charges.total ∷ [])

abbrev row : History ℕ → ℕ × (List ℕ × ℕ × List ℕ) × (List ℕ × ℕ × List ℕ)
row N = ((world_after units N).now, seen N 0, seen N 1)

-- The clock stands at 5. Server 0 got 2 units, and was charged 3 ticks, so it is due at 12, with a budget of 1. That is so
-- whether its job had 5 units or 2, but a job of 2 units is finished.
before : row begun ≡ (5, (5 ∷ [], 0, 2 ∷ 1 ∷ 12 ∷ 3 ∷ []), (3 ∷ [], 0, 0 ∷ 1 ∷ 4 ∷ 0 ∷ []))
unfolding ticks
before = refl

behind : row ended ≡ (5, (2 ∷ [], 1, 2 ∷ 1 ∷ 12 ∷ 3 ∷ []), (3 ∷ [], 0, 0 ∷ 1 ∷ 4 ∷ 0 ∷ []))
unfolding ticks
behind = refl

-- the replies, the newest first: all are the same but that of the last unit, which is the last of the job in hindsight
told_before : replies units two begun.steps ≡ reply.Charged ∷ reply.Ran (ran.Unit 0 0) ∷ reply.Ran (ran.Unit 0 0) ∷ reply.Accepted 0 ∷ reply.Accepted 0 ∷ []
unfolding ticks
told_before = refl

told_behind : replies units two ended.steps
    ≡ reply.Charged ∷ reply.Ran (ran.Done (record { server = 0; seq = 0; result = 0 })) ∷ reply.Ran (ran.Unit 0 0) ∷ reply.Accepted 0 ∷ reply.Accepted 0 ∷ []
unfolding ticks
told_behind = refl

-- Before the first unit server 0 owed 5 units, which were promised by tick 12. In hindsight it owed 2, by tick 4.
abbrev handed : List (Step ℕ)
handed = Submit 1 3 ∷ Submit 0 5 ∷ []

abbrev owes : History ℕ → ℕ × Option ℕ
owes N = let a = account_in units N 0 in (owed units a, promised units a)

owed_before : owes (when begun handed) ≡ (5, Some 12)
unfolding ticks
owed_before = refl

owed_behind : owes (hindsight units shortened (ending units begun 0 0) (when begun handed)) ≡ (2, Some 4)
unfolding ticks
owed_behind = refl

-- A job that is handed to the server between the last unit and the end makes a difference. The deadline of server 0 is 4,
-- and stays so at tick 4, as its job is unfinished. If that job had had the one unit that it got, the server would be idle, and
-- its deadline renewed.
abbrev joined : ℕ → History ℕ
joined n = record { setup = two; steps = Submit 0 1 ∷ Advance 3 ∷ Run ∷ Submit 0 n ∷ [] }

abbrev due : History ℕ → ℕ
due N = (account (world_after units N).accounts 0).state.deadline

differs : (due (joined 5) ∷ due (joined 1) ∷ []) ≡ 4 ∷ 8 ∷ []
unfolding ticks
differs = refl
