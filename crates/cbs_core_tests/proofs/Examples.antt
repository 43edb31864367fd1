-- Worked examples, computed from the definitions: of each step the clock after it, its reply, and the state of a server
-- after it.
use Rattle.std.proofs.Common.{◌≡◌, ℕ, List, [], ◌∷◌, refl, true, false, arith}
use Rattle.cbs_job.specs.FileJobs.{of_files}
use Rattle.cbs_job.specs.declared.file.FileJob.{FileJob}
use Rattle.cbs_job.specs.declared.file.FileJob.TheVariants.{Sum, Peak}
use Rattle.cbs_rules.specs.Rules.{State, Terms}
use Rattle.cbs_rules.specs.declared.mode.Mode.{Mode}
use Rattle.cbs_rules.specs.declared.mode.Mode.TheVariants.{Soft, Throttled}
use Rattle.cbs_steps.specs.History.{ticks, Setup, after, reply_to, account}
use Rattle.cbs_steps.specs.declared.error.CoreError.TheVariants as error
use Rattle.cbs_steps.specs.declared.step.Step.{Step}
use Rattle.cbs_steps.specs.declared.step.Step.TheVariants.{Submit, Run, Advance, Close}
use Rattle.cbs_steps.specs.declared.reply.Ran.TheVariants as ran
use Rattle.cbs_steps.specs.declared.reply.Reply.{Reply}
use Rattle.cbs_steps.specs.declared.reply.Reply.TheVariants as reply
use Rattle.cbs_steps.proofs.Ticks.{ticks_some}

-- a server of this mode with q ticks in every t
abbrev terms : Mode → ℕ → ℕ → Terms
terms m q t = record { mode = m; reservation = record { budget = q; period = t } }

-- servers with backlogs of four jobs
abbrev servers : List Terms → Setup
servers ts = record { servers = ts; backlog = 4 }

-- one server
abbrev one : Mode → ℕ → ℕ → Setup
one m q t = servers (terms m q t ∷ [])

-- steps, the newest first
abbrev Steps : Type 0
Steps = List (Step FileJob)

-- clock, reply, and the state of server s
abbrev row : Setup → Steps → Step FileJob → ℕ → ℕ × Reply FileJob × State
row setup M x s =
    let w = after of_files setup (x ∷ M) in
    (w.now, reply_to of_files setup.backlog (after of_files setup M) x, (account w.accounts s).state)

-- the same of each step, one after another
abbrev rows : Setup → Steps → List (Step FileJob × ℕ) → List (ℕ × Reply FileJob × State)
rows setup M [] = []
rows setup M (x ∷ xs) = row setup M x.0 x.1 ∷ rows setup (x.0 ∷ M) xs

-- a state with this budget and deadline
abbrev at : ℕ → ℕ → State
at c d = record { budget = c; deadline = d; throttled = false; overrun = 0 }

-- the same of a throttled server
abbrev throttled : ℕ → ℕ → State
throttled c d = record { budget = c; deadline = d; throttled = true; overrun = 0 }

-- the job that adds these numbers up
abbrev sum_of : List ℕ → FileJob
sum_of ns = Sum (record { numbers = ns; output = 0 })

-- the job that finds the greatest of these numbers
abbrev peak_of : List ℕ → FileJob
peak_of ns = Peak (record { numbers = ns; output = 0 })

-- a submit of a sum, and its server
abbrev submit : ℕ → List ℕ → Step FileJob × ℕ
submit s ns = (Submit s (sum_of ns), s)

-- a Run, and the server that is looked at
abbrev run : ℕ → Step FileJob × ℕ
run s = (Run, s)

abbrev advance : ℕ → ℕ → Step FileJob × ℕ
advance n s = (Advance n, s)

abbrev accepted : ℕ → Reply FileJob
accepted k = reply.Accepted k

abbrev unit : ℕ → ℕ → Reply FileJob
unit s k = reply.Ran (ran.Unit s k)

abbrev done : ℕ → ℕ → ℕ → Reply FileJob
done s k r = reply.Ran (ran.Done (record { server = s; seq = k; result = r }))

abbrev idle : Reply FileJob
idle = reply.Ran ran.Idle

-- a soft server gets a whole budget at once, and its deadline is postponed
postponed : rows (one Soft 2 5) [] (submit 0 (1 ∷ 2 ∷ 3 ∷ []) ∷ run 0 ∷ run 0 ∷ run 0 ∷ []) ≡
    (0, accepted 0, at 2 5) ∷ (1, unit 0 0, at 1 5) ∷ (2, unit 0 0, at 2 10) ∷ (3, done 0 0 6, at 1 10) ∷ []
postponed = refl

-- the same with the longest period
postponed_far : rows (one Soft 1 1000000000) [] (submit 0 (1 ∷ 1 ∷ 1 ∷ []) ∷ run 0 ∷ run 0 ∷ run 0 ∷ []) ≡
    (0, accepted 0, at 1 1000000000) ∷ (1, unit 0 0, at 1 2000000000) ∷ (2, unit 0 0, at 1 3000000000) ∷ (3, done 0 0 3, at 1 4000000000) ∷ []
postponed_far = refl

-- of equal deadlines the lower server number runs
lower_first : rows (servers (terms Soft 2 5 ∷ terms Soft 2 5 ∷ [])) [] (submit 0 (7 ∷ []) ∷ submit 1 (9 ∷ []) ∷ run 0 ∷ run 1 ∷ []) ≡
    (0, accepted 0, at 2 5) ∷ (0, accepted 0, at 2 5) ∷ (1, done 0 0 7, at 1 5) ∷ (2, done 1 0 9, at 1 5) ∷ []
lower_first = refl

-- at tick 2, 1 * 4 is (4 - 2) * 2: a soft server is renewed
renewed_soft : rows (one Soft 2 4) [] (submit 0 (1 ∷ []) ∷ run 0 ∷ advance 1 0 ∷ submit 0 (1 ∷ []) ∷ []) ≡
    (0, accepted 0, at 2 4) ∷ (1, done 0 0 1, at 1 4) ∷ (2, reply.Advanced, at 1 4) ∷ (2, accepted 1, at 2 6) ∷ []
unfolding ticks
renewed_soft = refl

-- and a throttled one is not
kept_throttled : rows (one Throttled 2 4) [] (submit 0 (1 ∷ []) ∷ run 0 ∷ advance 1 0 ∷ submit 0 (1 ∷ []) ∷ []) ≡
    (0, accepted 0, at 2 4) ∷ (1, done 0 0 1, at 1 4) ∷ (2, reply.Advanced, at 1 4) ∷ (2, accepted 1, at 1 4) ∷ []
unfolding ticks
kept_throttled = refl

-- an exhausted throttled server waits until its deadline
waiting : rows (one Throttled 2 5) [] (submit 0 (1 ∷ 2 ∷ 3 ∷ []) ∷ run 0 ∷ run 0 ∷ run 0 ∷ advance 7 0 ∷ run 0 ∷ []) ≡
    (0, accepted 0, at 2 5) ∷ (1, unit 0 0, at 1 5) ∷ (2, unit 0 0, throttled 0 5) ∷ (2, idle, throttled 0 5) ∷ (9, reply.Advanced, at 2 10) ∷ (10, done 0 0 6, at 1 10) ∷ []
unfolding ticks
waiting = refl

-- after seven single ticks the state is that of one advance by seven
ticked_singly : (account (after of_files (one Throttled 2 5) (Advance 1 ∷ Advance 1 ∷ Advance 1 ∷ Advance 1 ∷ Advance 1 ∷ Advance 1 ∷ Advance 1 ∷ Run ∷ Run ∷ Run ∷ Submit 0 (sum_of (1 ∷ 2 ∷ 3 ∷ [])) ∷ [])).accounts 0).state ≡ at 2 10
unfolding ticks
ticked_singly = refl

-- an advance while somebody is ready can leave a deadline in the past, with one replenishment
left_behind : rows (one Throttled 1 10) [] (submit 0 (1 ∷ 1 ∷ []) ∷ advance 20 0 ∷ run 0 ∷ []) ≡
    (0, accepted 0, at 1 10) ∷ (20, reply.Advanced, at 1 10) ∷ (21, unit 0 0, at 1 20) ∷ []
unfolding ticks
left_behind = refl

-- a job that comes while the server is throttled waits with it
queued_throttled : rows (one Throttled 1 4) [] (submit 0 (8 ∷ []) ∷ run 0 ∷ submit 0 (9 ∷ []) ∷ run 0 ∷ advance 3 0 ∷ run 0 ∷ []) ≡
    (0, accepted 0, at 1 4) ∷ (1, done 0 0 8, throttled 0 4) ∷ (1, accepted 1, throttled 0 4) ∷ (1, idle, throttled 0 4) ∷ (4, reply.Advanced, at 1 8) ∷ (5, done 0 1 9, throttled 0 8) ∷ []
unfolding ticks
queued_throttled = refl

-- a throttled server is replenished without a job, too
replenished_idle : rows (one Throttled 1 4) [] (submit 0 (8 ∷ []) ∷ run 0 ∷ advance 3 0 ∷ submit 0 (9 ∷ []) ∷ []) ≡
    (0, accepted 0, at 1 4) ∷ (1, done 0 0 8, throttled 0 4) ∷ (4, reply.Advanced, at 1 8) ∷ (4, accepted 1, at 1 8) ∷ []
unfolding ticks
replenished_idle = refl

-- a tick later the arrival renews it
renewed_late : rows (one Throttled 1 4) [] (submit 0 (8 ∷ []) ∷ run 0 ∷ advance 4 0 ∷ submit 0 (9 ∷ []) ∷ []) ≡
    (0, accepted 0, at 1 4) ∷ (1, done 0 0 8, throttled 0 4) ∷ (5, reply.Advanced, at 1 8) ∷ (5, accepted 1, at 1 9) ∷ []
unfolding ticks
renewed_late = refl

-- two soft servers that take the whole processor
sharing : rows (servers (terms Soft 2 5 ∷ terms Soft 3 5 ∷ [])) []
    (submit 0 (1 ∷ 1 ∷ 1 ∷ []) ∷ submit 1 (1 ∷ 1 ∷ 1 ∷ 1 ∷ []) ∷ run 0 ∷ run 0 ∷ run 1 ∷ run 1 ∷ run 1 ∷ run 0 ∷ run 1 ∷ []) ≡
    (0, accepted 0, at 2 5) ∷ (0, accepted 0, at 3 5) ∷ (1, unit 0 0, at 1 5) ∷ (2, unit 0 0, at 2 10) ∷ (3, unit 1 0, at 2 5)
    ∷ (4, unit 1 0, at 1 5) ∷ (5, unit 1 0, at 3 10) ∷ (6, done 0 0 3, at 1 10) ∷ (7, done 1 0 4, at 2 10) ∷ []
sharing = refl

-- a job that seeks the greatest number
peak : rows (one Soft 2 5) [] ((Submit 0 (peak_of (4 ∷ 9 ∷ 2 ∷ [])), 0) ∷ run 0 ∷ run 0 ∷ run 0 ∷ []) ≡
    (0, accepted 0, at 2 5) ∷ (1, unit 0 0, at 1 5) ∷ (2, unit 0 0, at 2 10) ∷ (3, done 0 0 9, at 1 10) ∷ []
peak = refl

-- three throttled servers that take the whole processor
sharing_throttled : rows (servers (terms Throttled 1 6 ∷ terms Throttled 1 3 ∷ terms Throttled 1 2 ∷ [])) []
    (submit 0 (1 ∷ 1 ∷ []) ∷ submit 1 (1 ∷ 1 ∷ []) ∷ submit 2 (1 ∷ 1 ∷ []) ∷ run 2 ∷ run 1 ∷ run 2 ∷ run 0 ∷ run 1 ∷ run 1 ∷ advance 1 1 ∷ run 0 ∷ []) ≡
    (0, accepted 0, at 1 6) ∷ (0, accepted 0, at 1 3) ∷ (0, accepted 0, at 1 2)
    ∷ (1, unit 2 0, throttled 0 2) ∷ (2, unit 1 0, throttled 0 3) ∷ (3, done 2 0 2, throttled 0 4) ∷ (4, unit 0 0, throttled 0 6) ∷ (5, done 1 0 2, throttled 0 6)
    ∷ (5, idle, throttled 0 6) ∷ (6, reply.Advanced, at 1 9) ∷ (7, done 0 0 2, throttled 0 12) ∷ []
unfolding ticks
sharing_throttled = refl

-- a renewing arrival of at most a budget is finished a period later, here at its last tick
in_time : row (servers (terms Soft 3 5 ∷ terms Soft 2 5 ∷ [])) (Run ∷ Run ∷ Run ∷ Run ∷ Submit 1 (sum_of (1 ∷ 1 ∷ [])) ∷ Submit 0 (sum_of (1 ∷ 1 ∷ 1 ∷ [])) ∷ []) Run 1 ≡ (5, done 1 0 2, at 2 10)
in_time = refl

-- nothing is accepted after a close, and a second close is refused; the backlog is counted without the finished jobs
closing : rows (record { servers = terms Soft 2 5 ∷ []; backlog = 1 }) [] (submit 0 (4 ∷ []) ∷ submit 0 (5 ∷ []) ∷ (Close 0, 0) ∷ submit 0 (6 ∷ []) ∷ run 0 ∷ (Close 0, 0) ∷ []) ≡
    (0, accepted 0, at 2 5) ∷ (0, reply.NotAccepted (record { error = error.BacklogFull; task = sum_of (5 ∷ []) }), at 2 5) ∷ (0, reply.Closed, at 2 5)
    ∷ (0, reply.NotAccepted (record { error = error.Closed; task = sum_of (6 ∷ []) }), at 2 5) ∷ (1, done 0 0 4, at 1 5) ∷ (1, reply.Refused error.Closed, at 1 5) ∷ []
closing = refl

-- at the clock's end
at_end : after of_files (one Soft 2 5) (Advance 1000000000000 ∷ []) ≡ record { now = 1000000000000; accounts = (after of_files (one Soft 2 5) []).accounts }
at_end = ticks_some 1000000000000 (after of_files (one Soft 2 5) []) (omega arith)

idle_at_end : reply_to of_files 4 (after of_files (one Soft 2 5) (Advance 1000000000000 ∷ [])) Run ≡ idle
idle_at_end = rw at_end refl

refused_at_end : reply_to of_files 4 (after of_files (one Soft 2 5) (Run ∷ Advance 1000000000000 ∷ [])) (Advance 1) ≡ reply.Refused error.ClockEnd
refused_at_end = rw at_end refl

accepted_at_end : row (one Soft 2 5) (Advance 1 ∷ Run ∷ Advance 1000000000000 ∷ []) (Submit 0 (sum_of (1 ∷ []))) 0 ≡ (1000000000000, accepted 0, at 2 1000000000005)
accepted_at_end = rw at_end refl

stopped_at_end : row (one Soft 2 5) (Submit 0 (sum_of (1 ∷ [])) ∷ Advance 1 ∷ Run ∷ Advance 1000000000000 ∷ []) Run 0 ≡ (1000000000000, reply.Ran ran.ClockEnd, at 2 1000000000005)
stopped_at_end = rw at_end refl
