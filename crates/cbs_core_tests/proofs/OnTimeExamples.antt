-- Lateness, demands, shares, promises and due ticks of small examples, computed from the definitions. A job is the
-- number of its units.
use Rattle.std.proofs.Common.{◌≡◌, ℕ, ◌+◌, ◌-◌, ◌*◌, Bool, List, [], ◌∷◌, refl, true, false, map, Option, Some, None}
use Rattle.std.specs.List.{sum_by}
use Rattle.cbs_job.specs.Work.{Meaning}
use Rattle.cbs_rate.specs.Plan.{total_share, all_periods, fits}
use Rattle.cbs_rate.specs.Rate.{Rate}
use Rattle.cbs_rules.specs.Rules.{Terms}
use Rattle.cbs_rules.specs.declared.mode.Mode.{Mode}
use Rattle.cbs_rules.specs.declared.mode.Mode.TheVariants.{Soft, Throttled}
use Rattle.cbs_steps.specs.Accounts.{Account, face_of}
use Rattle.cbs_steps.specs.History.{Setup, ticks, account, faces, after}
use Rattle.cbs_steps.specs.OnTime.{demand, is_late}
use Rattle.cbs_steps.specs.Promises.{promised, due}
use Rattle.cbs_steps.specs.Quiet.{AreQuiet}
use Rattle.cbs_steps.specs.declared.step.Step.{Step}
use Rattle.cbs_steps.specs.declared.step.Step.TheVariants.{Submit, Run, Advance}

-- work that is nothing but its units
abbrev units : Meaning ℕ
units = record { left = λ n. n; output = λ n. 0; after = λ n. n - 1 }

-- a server of q ticks in every t
abbrev server : Mode → ℕ → ℕ → Terms
server m q t = record { mode = m; reservation = record { budget = q; period = t } }

-- with a backlog of four jobs
abbrev setup : List Terms → Setup
setup servers = record { servers = servers; backlog = 4 }

-- what is known of server s after the steps, the newest first
abbrev left_of : List Terms → List (Step ℕ) → ℕ → Account ℕ
left_of servers M s = account (after units (setup servers) M).accounts s

-- whether server s is late after the steps
abbrev late : List Terms → List (Step ℕ) → ℕ → Bool
late servers M s = is_late (after units (setup servers) M).now (face_of units (left_of servers M s))

-- an advance while somebody is ready leaves it late
late_unquiet : late (server Throttled 1 10 ∷ []) (Advance 20 ∷ Submit 0 2 ∷ []) 0 ≡ true
unfolding ticks
late_unquiet = refl

-- of two servers that want the whole of each tick one is late after a unit: admission lets no such plan through
late_over : late (server Soft 1 1 ∷ server Soft 1 1 ∷ []) (Run ∷ Submit 1 1 ∷ Submit 0 1 ∷ []) 1 ≡ true
late_over = refl

-- two soft servers that take every tick, a job of nine units and one of two
abbrev whole : List Terms
whole = server Soft 3 5 ∷ server Soft 2 5 ∷ []

abbrev both : List (Step ℕ)
both = Submit 1 2 ∷ Submit 0 9 ∷ []

-- together they are a plan of exactly one, which admission lets through: so what is promised of a plan is promised of
-- some plan
abbrev rates : List Rate
rates = map (λ (t : Terms). t.reservation) whole

whole_is_one : (total_share rates ∷ all_periods rates ∷ []) ≡ 25 ∷ 25 ∷ []
whole_is_one = refl

whole_fits : fits (record { num = 1; den = 1 }) rates ≡ true
whole_fits = refl

-- and steps that keep it busy, none of which takes anybody's time, after which nobody is late, to the last tick
whole_quiet : AreQuiet units (setup whole) (Run ∷ Run ∷ Run ∷ Run ∷ Run ∷ both)
whole_quiet = (((((((tt, tt), tt), tt), tt), tt), tt), tt)

whole_in_time : (late whole (Run ∷ Run ∷ Run ∷ Run ∷ both) 0 ∷ late whole (Run ∷ Run ∷ Run ∷ Run ∷ both) 1 ∷ []) ≡ false ∷ false ∷ []
whole_in_time = refl

-- all demands up to x after the steps, in 25th parts of a tick
abbrev demands : List (Step ℕ) → ℕ → ℕ
demands M x = sum_by (demand 25 (after units (setup whole) M).now x) (faces units (after units (setup whole) M))

-- up to 5 and up to 10, after each unit: the ticks that are left until then, to the last
demands_meet : (demands both 5 ∷ demands (Run ∷ both) 5 ∷ demands (Run ∷ Run ∷ both) 5 ∷ demands (Run ∷ Run ∷ Run ∷ both) 5 ∷ demands (Run ∷ Run ∷ Run ∷ Run ∷ both) 5 ∷ demands (Run ∷ Run ∷ Run ∷ Run ∷ Run ∷ both) 5 ∷ [])
    ≡ 5 * 25 ∷ 4 * 25 ∷ 3 * 25 ∷ 2 * 25 ∷ 1 * 25 ∷ 0 ∷ []
demands_meet = refl

demands_meet_later : (demands both 10 ∷ demands (Run ∷ both) 10 ∷ demands (Run ∷ Run ∷ both) 10 ∷ demands (Run ∷ Run ∷ Run ∷ both) 10 ∷ demands (Run ∷ Run ∷ Run ∷ Run ∷ both) 10 ∷ demands (Run ∷ Run ∷ Run ∷ Run ∷ Run ∷ both) 10 ∷ [])
    ≡ 10 * 25 ∷ 9 * 25 ∷ 8 * 25 ∷ 7 * 25 ∷ 6 * 25 ∷ 5 * 25 ∷ []
demands_meet_later = refl

-- a greedy client pays for each unit: after four, (got + c) * T is d * Q
greedy : (let a = left_of (server Soft 1 10 ∷ []) (Run ∷ Run ∷ Run ∷ Run ∷ Submit 0 9 ∷ []) 0 in ((a.got + a.state.budget) * 10 ∷ a.state.deadline * 1 ∷ [])) ≡ 50 ∷ 50 ∷ []
greedy = refl

-- jobs of 2, 3 and 1 units that come at 0, 3 and 30 are due at 5, 15 and 35
abbrev first : List (Step ℕ)
first = Submit 0 2 ∷ []

abbrev second : List (Step ℕ)
second = Submit 0 3 ∷ Advance 1 ∷ Run ∷ Run ∷ first

abbrev third : List (Step ℕ)
third = Submit 0 1 ∷ Advance 24 ∷ Run ∷ Run ∷ Run ∷ second

dues : map (due units (setup (server Soft 2 5 ∷ [])) 0) (first ∷ second ∷ third ∷ []) ≡ 5 ∷ 15 ∷ 35 ∷ []
unfolding ticks
dues = refl

-- what is promised after the steps of a server of 2 ticks in every 5
abbrev told : Mode → List (Step ℕ) → Option ℕ
told m M = promised units (left_of (server m 2 5 ∷ []) M 0)

abbrev three : List (Step ℕ)
three = Submit 0 3 ∷ []

-- a job of three units that comes at 0 has the budget of deadline 5, and one more: it is promised for 10, before each
-- unit and after, by a soft server
promised_soft : (told Soft [] ∷ told Soft three ∷ told Soft (Run ∷ three) ∷ told Soft (Run ∷ Run ∷ three) ∷ told Soft (Run ∷ Run ∷ Run ∷ three) ∷ [])
    ≡ None ∷ Some 10 ∷ Some 10 ∷ Some 10 ∷ None ∷ []
promised_soft = refl

-- and by a throttled one, which has no budget left at 2, and a new one at 5
promised_throttled : (told Throttled three ∷ told Throttled (Run ∷ Run ∷ three) ∷ told Throttled (Advance 3 ∷ Run ∷ Run ∷ three) ∷ told Throttled (Run ∷ Advance 3 ∷ Run ∷ Run ∷ three) ∷ [])
    ≡ Some 10 ∷ Some 10 ∷ Some 10 ∷ None ∷ []
unfolding ticks
promised_throttled = refl

-- four units more at 1: six are owed, the budget has one, and the five others want three budgets
promised_more : told Soft (Submit 0 4 ∷ Run ∷ three) ≡ Some 20
promised_more = refl
