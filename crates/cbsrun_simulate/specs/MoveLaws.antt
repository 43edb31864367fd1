-- What holds of each move of a simulation.
use Rattle.std.specs.Prelude.{◌≡◌, ℕ, ◌-◌, ◌≤◌, min, leb, if◌then◌else◌, List, [], ◌∷◌, Option, Some, None}
use Rattle.cbs_job.specs.Work.{Meaning}
use Rattle.cbs_steps.specs.History.{world_after, reply_in}
use Rattle.cbs_steps.specs.Quiet.{IsQuietAdvance}
use Rattle.cbs_steps.specs.declared.reply.Reply.TheVariants as reply
use Rattle.cbs_steps.specs.declared.step.Step.TheVariants as step
use Rattle.cbsrun_simulate.specs.Moves.{Move, submit, charge, charged_by, Simulation, step_of, clock_of, after_move}
use Rattle.cbsrun_simulate.specs.declared.charge.Charge.{Charge}
use Rattle.cbsrun_simulate.specs.declared.release.Release.{Release}

-- if the move submits a release, the clock has come to its tick, and its tick is not earlier than `since`
abbrev pub IsOnTick : ℕ → ℕ → Move → Type 0
IsOnTick since now (submit r) = (since ≤ r.tick) × (r.tick ≤ now)
IsOnTick since now _ = Unit {0}

-- the charge that is owed before the tick `until`, cut to the ticks that are left until then
abbrev pub owed_before : ℕ → ℕ → Option Charge → Option Charge
owed_before until now None = None
owed_before until now (Some c) = if leb until now then None else Some (record c { ticks = min c.ticks (until - now) })

module _ {W : Type 0} (work : Meaning W) (job : Release → W) where
  -- each move has the property P where it stands
  abbrev pub AllMoves : (Simulation W → Move → Type 0) → Simulation W → List Move → Type 0
  AllMoves P sim [] = Unit {0}
  AllMoves P sim (m ∷ ms) = P sim m × AllMoves P (after_move work job sim m) ms

  -- the move advances quietly: it takes no tick from any server, unless it is a charge
  abbrev pub MovesQuietly : Simulation W → Move → Type 0
  MovesQuietly sim m = IsQuietAdvance work (world_after work sim.history) (step_of work job m)

  -- if the move is a charge, it is not refused
  abbrev pub IsGranted : Simulation W → Move → Type 0
  IsGranted sim (charge s n) = reply_in work sim.history (step.Charge s n) ≡ reply.Charged
  IsGranted sim _ = Unit {0}

  -- the move charges what is owed for the unit before it, as far as `until` allows, and is not refused. If nothing is
  -- owed, it is no charge
  pub record ChargesOwed (until : ℕ) (sim : Simulation W) (m : Move) : Type 0 where
    pub charge : charged_by m ≡ owed_before until (clock_of work job sim) sim.owing
    pub granted : IsGranted sim m

  -- the tick from which on a release may have waited, after a move. That is the start of the last charge, while the
  -- clock is still at the charge's end. Otherwise it is the clock
  abbrev pub since_after : ℕ → Simulation W → Move → ℕ
  since_after since sim (submit r) = since
  since_after since sim (charge s n) = clock_of work job sim
  since_after since sim m = clock_of work job (after_move work job sim m)

  -- each release is submitted at its tick. If a charge carried the clock past its tick, it is submitted as soon as the
  -- charge has ended
  abbrev pub EachOnTick : ℕ → Simulation W → List Move → Type 0
  EachOnTick since sim [] = Unit {0}
  EachOnTick since sim (m ∷ ms) = IsOnTick since (clock_of work job sim) m × EachOnTick (since_after since sim m) (after_move work job sim m) ms
