-- On time: all servers together ask for no more than the time that is left, so that none is late. The argument is that
-- of the processor's demand under earliest deadline first (Baruah, Rosier and Howell, Real-Time Systems 1990).
use Rattle.std.specs.Prelude.{◌≡◌, ℕ, ◌+◌, ◌-◌, ◌*◌, ◌≤◌, ◌<◌, min, Bool, true, false, ◌||◌, ◌&&◌, leb, ltb, if◌then◌else◌, List, [], ◌∷◌}
use Rattle.std.specs.List.{sum_by, AllByRecursion}
use Rattle.cbs_job.specs.Work.{Meaning}
use Rattle.cbs_rate.specs.Rate.{Rate}
use Rattle.cbs_rate.specs.Plan.{share, all_periods}
use Rattle.cbs_rules.specs.Rules.{State, funds, until}
use Rattle.cbs_steps.specs.Faces.{Face, is_active, is_ready, reservations}
use Rattle.cbs_steps.specs.History.{World, Setup, History, ◌⊕◌, faces, after, world_after}
use Rattle.cbs_steps.specs.Quiet.{IsQuietStep, AreQuiet, EachQuiet}
use Rattle.cbs_steps.specs.Replies.{grown_by}
use Rattle.cbs_steps.specs.declared.reply.Reply.{Reply}
use Rattle.cbs_steps.specs.declared.step.Step.{Step}

-- Demands are counted in parts of a tick, so that nothing is rounded. A tick has `parts` parts, a number that every
-- period divides, and a server takes `share parts r` parts in each tick.

-- What a server of this reservation may ask for up to tick x. Before its deadline it is nothing. From then on it is its
-- budget and its share of each tick after the deadline. For a throttled server, budget and deadline are those that it
-- will have.
abbrev pub full_demand : ℕ → Rate → State → ℕ → ℕ
full_demand parts r s x = if ltb x (until r s) then 0 else funds r s * parts + (x - until r s) * share parts r

-- the server's share of the ticks from now to x
abbrev pub share_until : ℕ → Rate → ℕ → ℕ → ℕ
share_until parts r now x = (x - now) * share parts r

-- What a server may ask for up to tick x, whether it is active or not. An idle, unthrottled server asks for no more
-- than its share from now on: an arrival that found a greater budget would renew the server.
abbrev pub demand_of : ℕ → Rate → ℕ → ℕ → Bool → State → ℕ
demand_of parts r now x active s =
    if active || s.throttled then full_demand parts r s x else min (full_demand parts r s x) (share_until parts r now x)

-- the demand of a server up to tick x
abbrev pub demand : ℕ → ℕ → ℕ → Face → ℕ
demand parts now x f = demand_of parts f.terms.reservation now x (is_active f) f.state

-- if a server is throttled, its deadline has not come
abbrev pub IsAhead : ℕ → Face → Type 0
IsAhead now f = f.state.throttled ≡ true → now < f.state.deadline

-- With so many parts in a tick, the servers together ask for no more up to any tick than the time until then, by this
-- demand. Each throttled server still waits for its deadline
pub record IsOnTimeBy (demand : ℕ → ℕ → ℕ → Face → ℕ) (parts now : ℕ) (fs : List Face) : Type 0 where
  pub within : (x : ℕ) → now ≤ x → sum_by (demand parts now x) fs ≤ (x - now) * parts
  pub ahead : AllByRecursion (IsAhead now) fs

-- on time: the demands are within the time that is left, with as many parts in a tick as every period divides
abbrev pub IsOnTime : ℕ → List Face → Type 0
IsOnTime now fs = IsOnTimeBy demand (all_periods (reservations fs)) now fs

-- late: ready, and its deadline has come
abbrev pub is_late : ℕ → Face → Bool
is_late now f = is_ready f && leb f.state.deadline now

-- no server is late
abbrev pub IsNobodyLate : ℕ → List Face → Type 0
IsNobodyLate now fs = AllByRecursion (λ f. is_late now f ≡ false) fs

module _ {W : Type 0} where
  -- a world that is on time
  abbrev pub IsWorldOnTime : Meaning W → World W → Type 0
  IsWorldOnTime work w = IsOnTime w.now (faces work w)

  -- no server was late at the start or after any of the steps
  abbrev pub NeverLate : Meaning W → Setup → List (Step W) → Type 0
  NeverLate work setup [] = IsNobodyLate 0 (faces work (after work setup []))
  NeverLate work setup (x ∷ M) = NeverLate work setup M × IsNobodyLate (after work setup (x ∷ M)).now (faces work (after work setup (x ∷ M)))

  -- if each step took nobody's time, all are on time
  abbrev pub KeepsOnTime : Meaning W → History W → Type 0
  KeepsOnTime work M = AreQuiet work M.setup M.steps → IsWorldOnTime work (world_after work M)

  -- if each step took nobody's time, no server was ever late
  abbrev pub KeepsDeadlines : Meaning W → History W → Type 0
  KeepsDeadlines work M = AreQuiet work M.setup M.steps → NeverLate work M.setup M.steps

  -- if all is on time, and the step x takes nobody's time, all stays on time
  abbrev pub KeepsTime : Meaning W → History W → Step W → Type 0
  KeepsTime work M x = IsQuietStep work (world_after work M) x → IsWorldOnTime work (world_after work M) → IsWorldOnTime work (world_after work (M ⊕ x))

  -- if all is on time, and each of the steps takes nobody's time, all stays on time; rs are the replies to the steps
  abbrev pub KeepsTimeAll : Meaning W → History W → List (Step W) → List (Reply W) → Type 0
  KeepsTimeAll work M xs rs = EachQuiet work M xs rs → IsWorldOnTime work (world_after work M) → IsWorldOnTime work (world_after work (grown_by M xs rs))
