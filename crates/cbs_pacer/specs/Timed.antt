-- Steps of which some are units that were measured, and what the laws of share and lateness say of
-- time.
use Rattle.std.specs.Prelude.{ℕ, ◌≡◌, ◌≤◌, ◌<◌, ◌+◌, ◌-◌, ◌*◌, true, eqb, if◌then◌else◌, List, [], ◌∷◌, ◌++◌, length, Option, Some, None}
use Rattle.cbs_job.specs.Work.{Meaning}
use Rattle.cbs_steps.specs.Faces.{is_ready}
use Rattle.cbs_steps.specs.Accounts.{Account, face_of}
use Rattle.cbs_steps.specs.History.{Setup, account, after, runner, charge_refusal}
use Rattle.cbs_steps.specs.Lateness.{later_charges}
use Rattle.cbs_steps.specs.Quiet.{AdvanceQuietly}
use Rattle.cbs_steps.specs.declared.step.Step.{Step}
use Rattle.cbs_steps.specs.declared.step.Step.TheVariants as step
use Rattle.cbs_clients.specs.Meters.{charge_steps}
use Rattle.cbs_pace.specs.declared.rounding.Rounding.{Rounding}
use Rattle.cbs_pace.specs.Units.{charge_of, rounding_of}
use Rattle.cbs_core.specs.Agreement.{Agrees}
use Rattle.cbs_core.specs.Held.{CoreHeld}
use Rattle.cbs_rules.specs.Rules.{clock_end}
use Rattle.cbs_pace.specs.Ledgers.{Ledger, new_ledger, with_unit}
use Rattle.cbs_pace.specs.Paces.{Pacing, carried_at, unit_charge, behind_of}
use Rattle.cbs_pacer.specs.Paced.{Paced}

-- a step, or a unit of server s that took so long, with its charge
pub data Timed (W : Type 0) : Type 0 where
  Makes : Step W → Timed W
  Works : ℕ → ℕ → Timed W

module _ {W : Type 0} where
  -- what the measured units of server s come to, the newest first
  abbrev pub ledger_of : Rounding → ℕ → ℕ → List (Timed W) → Ledger
  ledger_of r tick s [] = new_ledger
  ledger_of r tick s (Makes x ∷ N) = ledger_of r tick s N
  ledger_of r tick s (Works t took ∷ N) =
      if eqb t s then with_unit r tick took (ledger_of r tick s N) else ledger_of r tick s N

  -- how many ticks the next unit of server s is charged, if it takes so long
  abbrev pub next_charge : Rounding → ℕ → List (Timed W) → ℕ → ℕ → ℕ
  next_charge r tick N s took = charge_of r tick (ledger_of r tick s N).carried took

  -- the steps that were made, the newest first
  abbrev pub steps_of : Rounding → ℕ → List (Timed W) → List (Step W)
  steps_of r tick [] = []
  steps_of r tick (Makes x ∷ N) = x ∷ steps_of r tick N
  steps_of r tick (Works s took ∷ N) =
      charge_steps s (next_charge r tick N s took) ++ step.Run ∷ steps_of r tick N

  -- what is known of server s after them
  abbrev pub timed_account : Meaning W → Setup → Rounding → ℕ → ℕ → List (Timed W) → Account W
  timed_account work setup r tick s N = account (after work setup (steps_of r tick N)).accounts s

  -- each measured unit was got by its server, and its charge was granted
  abbrev pub AreTimed : Meaning W → Setup → Rounding → ℕ → List (Timed W) → Type 0
  AreTimed work setup r tick [] = Unit {0}
  AreTimed work setup r tick (Makes x ∷ N) = AreTimed work setup r tick N
  AreTimed work setup r tick (Works s took ∷ N) = AreTimed work setup r tick N
      × (runner work (after work setup (steps_of r tick N)) ≡ Some s)
      × (charge_refusal (after work setup (step.Run ∷ steps_of r tick N)) s
      (next_charge r tick N s took) ≡ None)

  -- A server's units take no more than its share of the time that its deadline moves over, but for
  -- its budget, its overrun and what it carries. With Q ticks in every T:
  --
  --     time measured since - (carried - carried before)
  --     + (budget - overrun - (budget before - overrun before)) ticks
  --     <= Q / T * (deadline - deadline before) ticks
  --
  -- Both sides are taken T times, and each subtracted number stands on the other side
  abbrev pub IsWithinShareOfTime : ℕ → Account W → Account W → Ledger → Ledger → Type 0
  IsWithinShareOfTime tick before after a b =
      let r = before.terms.reservation in
      (b.measured + a.carried + (after.state.budget + before.state.overrun) * tick) * r.period
      + before.state.deadline * r.budget * tick
      ≤ (a.measured + b.carried + (before.state.budget + after.state.overrun) * tick) * r.period
      + after.state.deadline * r.budget * tick

  -- So in any window, from after the moves M to after the moves K that follow M. A unit and its
  -- charge are one move, so that no window opens or closes between them
  abbrev pub KeepsShareOfTime : Meaning W → Setup → Rounding → ℕ → Type 0
  KeepsShareOfTime work setup r tick = (K M : List (Timed W)) (s : ℕ) → s < length setup.servers
      → AreTimed work setup r tick (K ++ M)
      → IsWithinShareOfTime tick
      (timed_account work setup r tick s M) (timed_account work setup r tick s (K ++ M))
      (ledger_of r tick s M) (ledger_of r tick s (K ++ M))

  -- If each advance was quiet, the deadline of a ready server has passed by less than some charges
  -- and the ticks by which the house's clock is behind, in the time of any pace
  abbrev pub KeepsLatenessInTime : Meaning W → Setup → Type 0
  KeepsLatenessInTime work setup = (steps : List (Step W)) (s : ℕ) (p : Pacing)
      → AdvanceQuietly work setup steps
      → (let w = after work setup steps in
      let d = (account w.accounts s).state.deadline in
      s < length w.accounts → is_ready (face_of work (account w.accounts s)) ≡ true
      → 0 < p.tick → p.first ≤ w.now
      → p.watch.over + p.first * p.tick
      < (d + later_charges d w.accounts + behind_of p w.now) * p.tick)

  -- the steps that a house made: if a unit is being done, its run is made, and it is not charged
  -- yet
  abbrev pub steps_so_far : Rounding → ℕ → Option ℕ → List (Timed W) → List (Step W)
  steps_so_far r tick None N = steps_of r tick N
  steps_so_far r tick (Some s) N = step.Run ∷ steps_of r tick N

  -- the unit that is being done was got by its server
  abbrev pub HasRun : Meaning W → Setup → Rounding → ℕ → Option ℕ → List (Timed W) → Type 0
  HasRun work setup r tick None N = Unit {0}
  HasRun work setup r tick (Some s) N = runner work (after work setup (steps_of r tick N)) ≡ Some s

  -- A core and a pace agree with such moves, while a unit of some server is being done, or none.
  -- The core made their steps, and each advance was quiet. Each measured unit was charged by what
  -- it took, and the pace carries what their ledgers do
  pub record IsTimed (work : Meaning W) (setup : Setup) (p : Pacing) (doing : Option ℕ)
      (core : CoreHeld W) (N : List (Timed W)) : Type 0 where
    pub agrees : Agrees work core (record {
      setup = setup;
      steps = steps_so_far (rounding_of p.carries) p.tick doing N;
    })
    pub quiet : AdvanceQuietly work setup (steps_so_far (rounding_of p.carries) p.tick doing N)
    pub timed : AreTimed work setup (rounding_of p.carries) p.tick N
    pub begun : HasRun work setup (rounding_of p.carries) p.tick doing N
    pub carried : (s : ℕ) → s < 64
        → carried_at p s ≡ (ledger_of (rounding_of p.carries) p.tick s N).carried

-- what the measured units of server s come to, after the unit that is being done, if it took so
-- long
abbrev pub ledger_after : Option ℕ → Rounding → ℕ → ℕ → ℕ → Ledger → Ledger
ledger_after None r tick took s l = l
ledger_after (Some t) r tick took s l = if eqb t s then with_unit r tick took l else l

-- the clock can hold what the unit that is being done is charged, if one is, and it took so long
abbrev pub ClockHolds : Option ℕ → Pacing → ℕ → ℕ → Type 0
ClockHolds None p took now = Unit {0}
ClockHolds (Some s) p took now = unit_charge p s took ≤ clock_end - now

-- So the moves go on. If a core and a pacer agree with some moves, and the clock can hold the
-- charge, then they agree with more moves after these. In these the ledgers have the unit more that
-- was being done, if there was one, and nothing else
abbrev pub GoesOnInTime : {W : Type 0} → Meaning W → ℕ → Paced → CoreHeld W → CoreHeld W → Paced
    → Type 0
GoesOnInTime {W = W} work took p old new q =
    (setup : Setup) (N : List (Timed W)) → ClockHolds p.doing p.pace took old.clock
    → IsTimed work setup p.pace p.doing old N
    → (K : List (Timed W)) × IsTimed work setup q.pace q.doing new (K ++ N)
    × ((s : ℕ) → let r = rounding_of p.pace.carries in let tick = p.pace.tick in
    ledger_of r tick s (K ++ N) ≡ ledger_after p.doing r tick took s (ledger_of r tick s N))
