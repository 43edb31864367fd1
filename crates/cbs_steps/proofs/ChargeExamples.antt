-- Worked examples of charges, computed from the definitions: states, the bound on lateness, refusals, promises, shares
-- and due ticks. A job is the number of its units.
use Rattle.std.proofs.Common.{◌≡◌, ℕ, ◌+◌, ◌-◌, ◌*◌, Bool, List, [], ◌∷◌, map, arith, refl, true, false, Option, Some}
use Rattle.std.specs.List.{sum_by}
use Rattle.cbs_job.specs.Work.{Meaning}
use Rattle.cbs_rules.specs.Rules.{State, Terms}
use Rattle.cbs_rules.specs.declared.mode.Mode.{Mode}
use Rattle.cbs_rules.specs.declared.mode.Mode.TheVariants.{Soft, Throttled}
use Rattle.cbs_steps.specs.Accounts.{Account, face_of, finished, taken}
use Rattle.cbs_steps.specs.Charged.{Due, due_tick, charged_due}
use Rattle.cbs_steps.specs.History.{Setup, World, ticks, account, faces, after, reply_to}
use Rattle.cbs_steps.specs.Lateness.{later_charges}
use Rattle.cbs_steps.specs.OnTime.{demand, is_late}
use Rattle.cbs_steps.specs.Paced.{pace_of, asked, held_up, IsWorldPaced}
use Rattle.cbs_steps.specs.Promises.{promised}
use Rattle.cbs_steps.specs.Quiet.{AdvanceQuietly}
use Rattle.cbs_steps.specs.StrictlyOnTime.{strict_demand}
use Rattle.cbs_steps.specs.declared.error.CoreError.TheVariants as error
use Rattle.cbs_steps.specs.declared.step.Step.{Step}
use Rattle.cbs_steps.specs.declared.step.Step.TheVariants.{Submit, Run, Advance, Charge}
use Rattle.cbs_steps.specs.declared.reply.Reply.{Reply}
use Rattle.cbs_steps.specs.declared.reply.Reply.TheVariants as reply

-- work that is nothing but its units
abbrev units : Meaning ℕ
units = record { left = λ n. n; output = λ n. 0; after = λ n. n - 1 }

-- a server of q ticks in every t
abbrev server : Mode → ℕ → ℕ → Terms
server m q t = record { mode = m; reservation = record { budget = q; period = t } }

-- with a backlog of four jobs
abbrev setup : List Terms → Setup
setup servers = record { servers = servers; backlog = 4 }

-- what the steps leave, the newest first
abbrev world : List Terms → List (Step ℕ) → World ℕ
world servers M = after units (setup servers) M

-- what is known of server s then
abbrev left_of : List Terms → List (Step ℕ) → ℕ → Account ℕ
left_of servers M s = account (world servers M).accounts s

-- the clock then, and the state of server s
abbrev row : List Terms → List (Step ℕ) → ℕ → ℕ × State
row servers M s = ((world servers M).now, (left_of servers M s).state)

-- the reply to one more step
abbrev answer : List Terms → List (Step ℕ) → Step ℕ → Reply ℕ
answer servers M x = reply_to units 4 (world servers M) x

-- a state with this budget and deadline
abbrev at : ℕ → ℕ → State
at c d = record { budget = c; deadline = d; throttled = false; overrun = 0 }

-- a throttled server that waits for this deadline with this overrun
abbrev waits : ℕ → ℕ → State
waits d o = record { budget = 0; deadline = d; throttled = true; overrun = o }

-- a unit of a job of three
abbrev one_unit : List (Step ℕ)
one_unit = Run ∷ Submit 0 3 ∷ []

-- a server of 2 in 5, of each mode
abbrev soft : List Terms
soft = server Soft 2 5 ∷ []

abbrev throttled : List Terms
throttled = server Throttled 2 5 ∷ []

-- A soft server whose unit is charged 3 ticks took 4, which is two budgets: it has a whole one again, for a deadline
-- two periods later.
soft_charged : (row soft one_unit 0 ∷ row soft (Charge 0 3 ∷ one_unit) 0 ∷ []) ≡ (1, at 1 5) ∷ (4, at 2 15) ∷ []
unfolding ticks
soft_charged = refl

-- A charge as large as the budget exhausts it, as its last unit does; a smaller one is taken from it.
soft_exhausted : (row soft (Charge 0 1 ∷ one_unit) 0 ∷ row (server Soft 3 5 ∷ []) (Charge 0 1 ∷ one_unit) 0 ∷ []) ≡ (2, at 2 10) ∷ (2, at 1 5) ∷ []
unfolding ticks
soft_exhausted = refl

-- A throttled server that is charged a tick beyond its budget waits with an overrun of 1, which its replenishment takes
-- from the new budget.
throttled_charged : (row throttled one_unit 0 ∷ row throttled (Charge 0 2 ∷ one_unit) 0 ∷ row throttled (Advance 2 ∷ Charge 0 2 ∷ one_unit) 0 ∷ [])
    ≡ (1, at 1 5) ∷ (3, waits 5 1) ∷ (5, at 1 10) ∷ []
unfolding ticks
throttled_charged = refl

-- If the overrun would be a whole budget, the server waits a period longer instead: at 5 it is not replenished.
throttled_longer : (row throttled (Charge 0 3 ∷ one_unit) 0 ∷ row throttled (Charge 0 4 ∷ one_unit) 0 ∷ row throttled (Advance 5 ∷ Charge 0 4 ∷ one_unit) 0 ∷ [])
    ≡ (4, waits 10 0) ∷ (5, waits 10 1) ∷ (10, at 1 15) ∷ []
unfolding ticks
throttled_longer = refl

-- Charges of 2 and 1 leave what one of 3 leaves.
charged_in_parts : world throttled (Charge 0 1 ∷ Charge 0 2 ∷ one_unit) ≡ world throttled (Charge 0 3 ∷ one_unit)
unfolding ticks
charged_in_parts = refl

-- the clock, the deadline of server s, and the most that each server with a later one was charged for one unit, all
-- together
abbrev lateness : List Terms → List (Step ℕ) → ℕ → List ℕ
lateness servers M s =
    let w = world servers M in
    let d = (account w.accounts s).state.deadline in
    w.now ∷ d ∷ later_charges d w.accounts ∷ []

-- whether server s is late then
abbrev late : List Terms → List (Step ℕ) → ℕ → Bool
late servers M s = is_late (world servers M).now (face_of units (left_of servers M s))

-- two throttled servers that take every tick, with a job each; the first one's unit is charged 2
abbrev halves : List Terms
halves = server Throttled 1 2 ∷ server Throttled 1 2 ∷ []

abbrev long_unit : List (Step ℕ)
long_unit = Charge 0 2 ∷ Run ∷ Submit 1 2 ∷ Submit 0 2 ∷ []

-- The first one pays by a deadline two periods later; the second still waits for its unit.
halves_states : (row halves long_unit 0 ∷ row halves long_unit 1 ∷ []) ≡ (3, waits 6 0) ∷ (3, at 1 2) ∷ []
unfolding ticks
halves_states = refl

-- No advance takes anybody's time, so the law on lateness holds of it.
halves_quietly : AdvanceQuietly units (setup halves) long_unit
halves_quietly = ((((tt, tt), tt), tt), tt)

-- At tick 3 the second one is late, with deadline 2,
halves_late : late halves long_unit 1 ≡ true
unfolding ticks
halves_late = refl

-- by as much as it may be: the first one has a later deadline, and was charged 2, and 2 + 2 is 3 + 1.
bound_met_equally : lateness halves long_unit 1 ≡ 3 ∷ 2 ∷ 2 ∷ []
unfolding ticks
bound_met_equally = refl

-- what all servers ask for up to tick x, and the time gone, and beside it x with what may have held them up: both in
-- parts of a tick
abbrev paces : List Terms → List (Step ℕ) → ℕ → ℕ → List ℕ
paces servers M parts x =
    let w = world servers M in
    let ps = map (pace_of units) w.accounts in
    (sum_by (asked parts w.now x) ps + w.now * parts) ∷ ((x + sum_by (held_up x) ps) * parts) ∷ []

-- Up to its deadline, 2, the second one asks for its budget of 1, at tick 3, and the first may have held it up by 2. So
-- nothing is to spare: in parts, of which a tick has two, 2 * (1 + 3) is 2 * (2 + 2).
paced_to_the_tick : paces halves long_unit 2 2 ≡ 8 ∷ 8 ∷ []
unfolding ticks
paced_to_the_tick = refl

-- An advance while a server is ready leaves what is not paced: a server of 1 in 10 asks for its budget by 10, at tick 20.
abbrev loud : List (Step ℕ)
loud = Advance 20 ∷ Submit 0 1 ∷ []

abbrev soft_tenth : List Terms
soft_tenth = server Soft 1 10 ∷ []

not_paced : ¬ IsWorldPaced units (world soft_tenth loud)
unfolding ticks
not_paced on = let b = on.within 10 (omega arith) in absurd (omega arith)

-- three servers of 1 in 4; a unit of the first is charged 2, and then one of the second 4
abbrev quarters : List Terms
quarters = server Throttled 1 4 ∷ server Soft 1 4 ∷ server Throttled 1 4 ∷ []

abbrev two_long_units : List (Step ℕ)
two_long_units = Charge 1 4 ∷ Run ∷ Charge 0 2 ∷ Run ∷ Submit 0 3 ∷ Submit 2 4 ∷ Submit 1 2 ∷ []

-- Both pay by later deadlines; the third one waits for its unit.
quarters_states : (row quarters two_long_units 0 ∷ row quarters two_long_units 1 ∷ row quarters two_long_units 2 ∷ [])
    ≡ (8, waits 12 0) ∷ (8, at 1 24) ∷ (8, at 1 4) ∷ []
unfolding ticks
quarters_states = refl

-- The law on lateness holds of these steps, too.
quarters_quietly : AdvanceQuietly units (setup quarters) two_long_units
quarters_quietly = (((((((tt, tt), tt), tt), tt), tt), tt), tt)

-- The third one is late, with deadline 4 at tick 8.
quarters_late : late quarters two_long_units 2 ≡ true
unfolding ticks
quarters_late = refl

-- The greatest charge, 4, does not bound it, since 4 + 4 is not more than 8. The sum of both servers' greatest, 2 + 4,
-- does.
greatest_is_too_few : ((left_of quarters two_long_units 0).charges.most ∷ (left_of quarters two_long_units 1).charges.most ∷ lateness quarters two_long_units 2)
    ≡ 2 ∷ 4 ∷ 8 ∷ 4 ∷ 6 ∷ []
unfolding ticks
greatest_is_too_few = refl

-- A charge is refused if there is no such server,
no_such_server : answer soft one_unit (Charge 1 1) ≡ reply.Refused error.NoSuchServer
unfolding ticks
no_such_server = refl

-- if no server has run yet,
nobody_ran : answer soft (Submit 0 3 ∷ []) (Charge 0 1) ≡ reply.Refused error.NotRunning
nobody_ran = refl

-- after an advance by a tick,
charged_after_advance : answer soft (Advance 1 ∷ one_unit) (Charge 0 1) ≡ reply.Refused error.NotRunning
unfolding ticks
charged_after_advance = refl

-- a unit of each of two servers
abbrev two_units : List (Step ℕ)
two_units = Run ∷ Run ∷ Submit 1 1 ∷ Submit 0 1 ∷ []

-- and if another server got the last unit. That one is charged.
charged_for_another : (answer (server Soft 2 5 ∷ soft) two_units (Charge 0 1) ∷ answer (server Soft 2 5 ∷ soft) two_units (Charge 1 1) ∷ [])
    ≡ reply.Refused error.NotRunning ∷ reply.Charged ∷ []
unfolding ticks
charged_for_another = refl

-- A submit, an advance by 0, a run with nobody ready and a charge may stand between the unit and the charge.
charged_later : (answer soft (Submit 0 1 ∷ one_unit) (Charge 0 1) ∷ answer soft (Advance 0 ∷ one_unit) (Charge 0 1)
    ∷ answer soft (Run ∷ Run ∷ Submit 0 1 ∷ []) (Charge 0 1) ∷ answer soft (Charge 0 2 ∷ one_unit) (Charge 0 1) ∷ [])
    ≡ reply.Charged ∷ reply.Charged ∷ reply.Charged ∷ reply.Charged ∷ []
unfolding ticks
charged_later = refl

-- At tick 1 a charge may go up to the clock's end, and no further.
charged_to_the_end : (answer soft one_unit (Charge 0 999999999999) ∷ answer soft one_unit (Charge 0 1000000000000) ∷ [])
    ≡ reply.Charged ∷ reply.Refused error.ClockEnd ∷ []
charged_to_the_end = refl

-- A charge of 0 changes nothing.
charge_of_none : world soft (Charge 0 0 ∷ one_unit) ≡ world soft one_unit
charge_of_none = refl

-- Of 0 ticks, too, only the server that runs is charged.
none_answered : (answer soft one_unit (Charge 0 0) ∷ answer soft [] (Charge 0 0) ∷ []) ≡ reply.Charged ∷ reply.Refused error.NotRunning ∷ []
none_answered = refl

-- what is promised after the steps
abbrev told : List Terms → List (Step ℕ) → Option ℕ
told servers M = promised units (left_of servers M 0)

-- A job of three units is promised for 10. Its first unit is charged 2, one of which is an overrun: two units and the
-- overrun need two budgets more, so it is promised for 15 from then on.
promised_charged : (told throttled (Submit 0 3 ∷ []) ∷ told throttled one_unit ∷ told throttled (Charge 0 2 ∷ one_unit)
    ∷ told throttled (Advance 2 ∷ Charge 0 2 ∷ one_unit) ∷ [])
    ≡ Some 10 ∷ Some 10 ∷ Some 15 ∷ Some 15 ∷ []
unfolding ticks
promised_charged = refl

-- the clock after the steps, and how many jobs of server s are finished
abbrev finished_at : List Terms → List (Step ℕ) → ℕ → ℕ × ℕ
finished_at servers M s = ((world servers M).now, finished units (left_of servers M s))

-- Without the overrun that would be 10, and the job is done at 11.
done_charged : finished_at throttled (Run ∷ Advance 4 ∷ Run ∷ Advance 2 ∷ Charge 0 2 ∷ one_unit) 0 ≡ (11, 1)
unfolding ticks
done_charged = refl

-- a throttled server of 1 in 10, which gets a unit just before its deadline and one after, of which the second is
-- charged 5
abbrev tenth : List Terms
tenth = server Throttled 1 10 ∷ []

-- a window opens a tick before its deadline,
abbrev opened : List (Step ℕ)
opened = Advance 9 ∷ Submit 0 4 ∷ []

-- and ends after the charge
abbrev spent : List (Step ℕ)
spent = Charge 0 5 ∷ Run ∷ Run ∷ opened

-- It gets its second unit with the new budget, and pays for the charge by a deadline five periods later.
tenth_states : (row tenth opened 0 ∷ row tenth (Run ∷ opened) 0 ∷ row tenth (Run ∷ Run ∷ opened) 0 ∷ row tenth spent 0 ∷ [])
    ≡ (9, at 1 10) ∷ (10, at 1 20) ∷ (11, waits 20 0) ∷ (16, waits 70 0) ∷ []
unfolding ticks
tenth_states = refl

-- the two sides of the law of shares for a server of q in every t, of what is known of it before and after
abbrev shares : ℕ → ℕ → Account ℕ → Account ℕ → List ℕ
shares q t a b = ((taken b + b.state.budget + a.state.overrun) * t + a.state.deadline * q)
    ∷ ((taken a + a.state.budget + b.state.overrun) * t + b.state.deadline * q) ∷ []

-- From 9 to 16 it took 7 ticks, more than its share of those, but its deadline pays for them to the last: 7 * 10 + 10
-- is 1 * 10 + 70.
share_met : shares 1 10 (left_of tenth opened 0) (left_of tenth spent 0) ≡ 80 ∷ 80 ∷ []
unfolding ticks
share_met = refl

-- A soft server of 2 in 5 that is charged 3, and a throttled one that is charged 2, of which one is an overrun, pay to
-- the last, too: (4 + 2) * 5 is 15 * 2, and 3 * 5 is 1 * 5 + 5 * 2.
share_met_at_once : (shares 2 5 (left_of soft [] 0) (left_of soft (Charge 0 3 ∷ one_unit) 0)
    ∷ shares 2 5 (left_of throttled [] 0) (left_of throttled (Charge 0 2 ∷ one_unit) 0) ∷ [])
    ≡ (30 ∷ 30 ∷ []) ∷ (15 ∷ 15 ∷ []) ∷ []
unfolding ticks
share_met_at_once = refl

-- The cap of those 7 ticks is 1 + 7 / 10 + 1 + 5, its budget, its share, a budget, and the most charged for one unit:
-- ten times of each, and the first tick of the window on both sides. Without the most charged it would be 2 + 7 / 10.
cap_kept : (let w = world tenth opened in
    let a = account w.accounts 0 in
    let v = world tenth spent in
    let b = account v.accounts 0 in
    (taken b * 10 + w.now * 1) ∷ ((taken a + a.state.budget + b.charges.most) * 10 + (v.now + 10) * 1)
    ∷ ((taken a + a.state.budget) * 10 + (v.now + 10) * 1) ∷ [])
    ≡ 79 ∷ 86 ∷ 36 ∷ []
unfolding ticks
cap_kept = refl

-- two soft servers that take every tick; the second one's first job, of one unit, is done at 3
abbrev shared : List Terms
shared = server Soft 1 2 ∷ server Soft 2 4 ∷ []

abbrev first_done : List (Step ℕ)
first_done = Run ∷ Run ∷ Run ∷ Submit 1 1 ∷ Submit 0 9 ∷ []

-- its unit is charged one tick, before its next job comes or after
abbrev charged_first : List (Step ℕ)
charged_first = Submit 1 2 ∷ Charge 1 1 ∷ first_done

abbrev charged_late : List (Step ℕ)
charged_late = Charge 1 1 ∷ Submit 1 2 ∷ first_done

-- The next job renews its server both times. A late charge is paid from the budget that came with it.
second_states : (row shared first_done 1 ∷ row shared charged_first 1 ∷ row shared (Submit 1 2 ∷ first_done) 1 ∷ row shared charged_late 1 ∷ [])
    ≡ (3, at 1 4) ∷ (4, at 2 8) ∷ (3, at 2 7) ∷ (4, at 1 7) ∷ []
unfolding ticks
second_states = refl

-- when the last job of the second server is due
abbrev due : List (Step ℕ) → Due
due M = charged_due units (setup shared) 1 M

-- So it counts for that job: charged before it comes, the first job has two units, is due at 4, and the next one at 8;
-- charged after, the next job has three units, and is due at 12.
dues_charged : (due first_done ∷ due charged_first ∷ due charged_late ∷ [])
    ≡ record { from = 0; units = 1 } ∷ record { from = 4; units = 2 } ∷ record { from = 4; units = 3 } ∷ []
unfolding ticks
dues_charged = refl

-- with 2 units in every 4 ticks
due_ticks : (due_tick (record { budget = 2; period = 4 }) (due charged_first) ∷ due_tick (record { budget = 2; period = 4 }) (due charged_late) ∷ []) ≡ 8 ∷ 12 ∷ []
unfolding ticks
due_ticks = refl

-- Charged before, the next job is finished at 8. Charged after, it is not finished then, but a tick later.
finished_due : (finished_at shared (Run ∷ Run ∷ Run ∷ Run ∷ charged_first) 1 ∷ finished_at shared (Run ∷ Run ∷ Run ∷ Run ∷ charged_late) 1
    ∷ finished_at shared (Run ∷ Run ∷ Run ∷ Run ∷ Run ∷ charged_late) 1 ∷ [])
    ≡ (8, 2) ∷ (8, 1) ∷ (9, 2) ∷ []
unfolding ticks
finished_due = refl

-- a throttled server of 2 in 4, and one of 4 in 8, with a job each; all take every tick, which has 8 parts
abbrev unlike : List Terms
unlike = server Throttled 2 4 ∷ server Soft 4 8 ∷ []

abbrev one_of_two : List (Step ℕ)
one_of_two = Run ∷ Submit 1 4 ∷ Submit 0 3 ∷ []

-- what is left up to tick x after the steps; all demands, and all strict ones
abbrev demands : List (Step ℕ) → ℕ → List ℕ
demands M x =
    let w = world unlike M in
    (x - w.now) * 8 ∷ sum_by (demand 8 w.now x) (faces units w) ∷ sum_by (strict_demand 8 w.now x) (faces units w) ∷ []

-- A second unit throttles the first server at tick 2, with deadline 4. Up to tick 6 it asks strictly for one tick, its
-- share of the two after 4. Else it asks for nothing before 8, where both are the same again.
throttled_strictly : (demands (Run ∷ one_of_two) 6 ∷ demands (Run ∷ one_of_two) 8 ∷ []) ≡ (32 ∷ 0 ∷ 8 ∷ []) ∷ (48 ∷ 48 ∷ 48 ∷ []) ∷ []
unfolding ticks
throttled_strictly = refl

-- A charge need not leave all strictly on time. One of 2 is a tick more than the budget of the first server, which
-- waits for 4 with an overrun of 1. Up to tick 8 five ticks are left. It asks for the one that its next budget then has,
-- and the other server for four; strictly it asks for its share of the four ticks after 4, which are two.
charged_strictly : (row unlike (Charge 0 2 ∷ one_of_two) 0 ∷ []) ≡ (3, waits 4 1) ∷ []
unfolding ticks
charged_strictly = refl

charged_too_much : demands (Charge 0 2 ∷ one_of_two) 8 ≡ 5 * 8 ∷ 5 * 8 ∷ 6 * 8 ∷ []
unfolding ticks
charged_too_much = refl
