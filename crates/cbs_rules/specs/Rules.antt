-- The rules for one server: its start, an arrival, a unit, a charge, a replenishment. Soft mode is the Constant
-- Bandwidth Server of Luca Abeni and Giorgio Buttazzo, 'Integrating Multimedia Applications in Hard Real-Time Systems',
-- RTSS 1998. Throttled mode is this project's own, modelled on Linux's SCHED_DEADLINE.
use Rattle.std.specs.Prelude.{◌≡◌, ℕ, zero, suc, ◌+◌, ◌-◌, ◌*◌, ◌/◌, ◌%◌, ◌≤◌, ◌<◌, Bool, true, false, ◌&&◌, ◌||◌, eqb, leb, ltb, if◌then◌else◌}
use Rattle.cbs_rate.specs.Rate.{Rate}
use Rattle.cbs_rules.specs.declared.mode.Mode.{Mode}
use Rattle.cbs_rules.specs.declared.mode.Mode.TheVariants.{Soft, Throttled}

-- the clock's end, in ticks
abbrev pub clock_end : ℕ
clock_end = 1000000000000

-- The latest deadline to which a period may still be added, in ticks. No unit before the clock's end and no
-- replenishment starts from a later deadline
abbrev pub latest_deadline : ℕ
latest_deadline = 1000000001000000000000

-- the mode and the reservation that a server was given
pub record Terms : Type 0 where
  pub mode : Mode
  pub reservation : Rate

-- The ticks that a server may still use, by when, and whether it waits for replenishment. If it waits, the overrun: the
-- ticks that were charged to it beyond its budget, which are taken from the next budget
pub record State : Type 0 where
  pub budget : ℕ
  pub deadline : ℕ
  pub throttled : Bool
  pub overrun : ℕ

-- the start: no budget, deadline 0, not throttled, no overrun
abbrev pub fresh_state : State
fresh_state = record { budget = 0; deadline = 0; throttled = false; overrun = 0 }

-- Whether an arrival at an idle, unthrottled server renews it. Its deadline has come, or its budget is too much for the
-- time that is left. With c the budget and d the deadline, the soft rule of 1998 is c ≥ (d - now) * Q / T, multiplied out. The
-- throttled rule has > instead of ≥
abbrev pub is_renewed : Mode → Rate → ℕ → State → Bool
is_renewed Soft r now s = leb s.deadline now || leb ((s.deadline - now) * r.budget) (s.budget * r.period)
is_renewed Throttled r now s = leb s.deadline now || ltb ((s.deadline - now) * r.budget) (s.budget * r.period)

-- an arrival at an idle, unthrottled server: a renewed server gets a whole budget and the deadline one period from now;
-- otherwise it keeps both
abbrev pub after_arrival : Mode → Rate → ℕ → State → State
after_arrival mode r now s = if is_renewed mode r now s then record s { budget = r.budget; deadline = now + r.period } else s

-- exhaustion: a soft server gets a whole budget at once and its deadline is postponed by one period (1998); a
-- server of throttled mode waits
abbrev pub after_exhaustion : Mode → Rate → State → State
after_exhaustion Soft r s = record s { budget = r.budget; deadline = s.deadline + r.period }
after_exhaustion Throttled r s = record s { throttled = true }

-- a unit uses one tick of the budget, and the last tick exhausts the budget
abbrev pub after_unit : Mode → Rate → State → State
after_unit mode r s =
    let spent : State = record s { budget = s.budget - 1 } in
    if eqb spent.budget 0 then after_exhaustion mode r spent else spent

-- A charge of at least as many ticks as the budget has, with e ticks beyond it, an old overrun included. A soft server
-- gets at once as many whole budgets as it needs to have some left. Its deadline is postponed by one period for each. A
-- server of throttled mode waits. Its deadline is postponed by one period for each whole budget in e, and the rest of e
-- is its overrun
abbrev pub after_excess : Mode → Rate → ℕ → State → State
after_excess Soft r e s = record s { budget = r.budget - e % r.budget; deadline = s.deadline + (e / r.budget + 1) * r.period }
after_excess Throttled r e s = record { budget = 0; deadline = s.deadline + e / r.budget * r.period; throttled = true; overrun = e % r.budget }

-- A charge of n ticks, at least one, that a unit took after its first tick. They are taken from the budget, and if it
-- does not suffice, from the budgets to come
abbrev pub after_charge : Mode → Rate → ℕ → State → State
after_charge mode r n s = if ltb n s.budget then record s { budget = s.budget - n } else after_excess mode r (s.overrun + n - s.budget) s

-- n charges of one tick each
abbrev pub after_charges : Mode → Rate → ℕ → State → State
after_charges mode r zero s = s
after_charges mode r (suc n) s = after_charges mode r n (after_charge mode r 1 s)

-- a replenishment at a tick: a throttled server whose deadline has come gets one budget, less its overrun, and one more
-- period, and runs again
abbrev pub after_replenishment : Rate → ℕ → State → State
after_replenishment r now s =
    if s.throttled && leb s.deadline now then record { budget = s.budget + r.budget - s.overrun; deadline = s.deadline + r.period; throttled = false; overrun = 0 } else s

-- n ticks from now, with a replenishment at each of them
abbrev pub after_ticks : Rate → ℕ → ℕ → State → State
after_ticks r now zero s = s
after_ticks r now (suc n) s = after_ticks r (now + 1) n (after_replenishment r (now + 1) s)

-- What every server keeps. The budget is within the reservation: 0 if the server is throttled, above 0 if it may run
-- and has a deadline. Before its first deadline it has no budget and is not throttled. An overrun is less than a
-- budget, and only a throttled server has one
pub record IsState (r : Rate) (s : State) : Type 0 where
  pub capped : s.budget ≤ r.budget
  pub spent : s.throttled ≡ true → s.budget ≡ 0
  pub unspent : s.throttled ≡ false → 0 < s.deadline → 0 < s.budget
  pub unbegun : s.deadline ≡ 0 → s.budget ≡ 0
  pub unmarked : s.deadline ≡ 0 → s.throttled ≡ false
  pub below : s.overrun < r.budget
  pub clear : s.throttled ≡ false → s.overrun ≡ 0

-- a server with the reservation may have this state in the midst of a run, whose clock is at its end or before
pub record CanStand (r : Rate) (s : State) : Type 0 where
  pub state : IsState r s
  pub early : s.deadline ≤ latest_deadline + 1000000000

-- what a server may still take, as if one that waits had been replenished already: so many ticks, and by when. A
-- replenishment changes neither
abbrev pub funds : Rate → State → ℕ
funds r s = if s.throttled then r.budget - s.overrun else s.budget

abbrev pub until : Rate → State → ℕ
until r s = if s.throttled then s.deadline + r.period else s.deadline

-- From s to t the server paid n ticks. Some budgets were added to what it may still take, each with one period, and n
-- ticks were taken
pub record IsPaid (r : Rate) (n : ℕ) (s t : State) : Type 0 where
  pub budgets : ℕ
  pub paid : funds r t + n ≡ funds r s + budgets * r.budget
  pub postponed : until r t ≡ until r s + budgets * r.period

-- a server's reservation and state together
pub record Reserved : Type 0 where
  pub reservation : Rate
  pub state : State
