-- The next move of a simulation.
use Rattle.std.specs.Prelude.{◌≡◌, ℕ, zero, suc, ◌+◌, ◌-◌, min, leb, ltb, if◌then◌else◌, List, [], ◌∷◌, ◌++◌, length, map, drop, get_or, Option, Some, None}
use Rattle.std.specs.Option.{is_some, option_map_or}
use Rattle.cbs_job.specs.Work.{Meaning}
use Rattle.cbs_steps.specs.Choice.{chosen_among}
use Rattle.cbs_steps.specs.Faces.{Face, ranks}
use Rattle.cbs_steps.specs.History.{World, History, ◌⊕◌, account, faces, world_after, reply_in}
use Rattle.cbs_steps.specs.Waiting.{span_of}
use Rattle.cbs_steps.specs.declared.reply.Ran.{Ran}
use Rattle.cbs_steps.specs.declared.reply.Ran.TheVariants as ran
use Rattle.cbs_steps.specs.declared.step.Step.{Step}
use Rattle.cbs_steps.specs.declared.step.Step.TheVariants as step
pub use Rattle.cbsrun_events.specs.Steps.{ran_in}
use Rattle.cbsrun_simulate.specs.declared.charge.Charge.{Charge}
use Rattle.cbsrun_simulate.specs.declared.release.Release.{Release}

-- a move of a simulation: a release is submitted, a unit is run, this many ticks pass, or a server is charged this many
-- ticks
pub data Move : Type 0 where
  submit : Release → Move
  run : Move
  pass : ℕ → Move
  charge : ℕ → ℕ → Move

-- if no server is ready: for how many ticks none will be, up to the clock's end
abbrev pub idle_span : ℕ → List Face → Option ℕ
idle_span now fs = if is_some (chosen_among (ranks fs)) then None else Some (span_of now fs)

-- the move if no release has come, up to the tick `stop`. If a server is ready, a unit is run. Otherwise ticks pass, as
-- many as no server will be ready, but no further than to `stop`
abbrev pub move_on : ℕ → ℕ → Option ℕ → Move
move_on now stop None = run
move_on now stop (Some span) = pass (min span (stop - now))

-- the next move before the tick `until`, if nothing is owed. A release that has come is submitted
abbrev pub next_free : ℕ → ℕ → List Face → List Release → Move
next_free until now fs [] = move_on now until (idle_span now fs)
next_free until now fs (r ∷ rs) = if leb r.tick now then submit r else move_on now (min r.tick until) (idle_span now fs)

-- the next move before the tick `until`. What is owed is charged first, but no further than to `until`
abbrev pub next_before : ℕ → ℕ → List Face → Option Charge → List Release → Move
next_before until now fs None rs = next_free until now fs rs
next_before until now fs (Some c) rs = charge c.server (min c.ticks (until - now))

-- the move when the clock is at the tick `until`, if there is one. A release before `until` that a charge has carried
-- the clock past is still submitted
abbrev pub last_move : ℕ → List Release → Option Move
last_move until [] = None
last_move until (r ∷ rs) = if ltb r.tick until then Some (submit r) else None

-- the next move, if there is one, by the clock, the servers, what is owed, and the releases to come
abbrev pub next_move : ℕ → ℕ → List Face → Option Charge → List Release → Option Move
next_move until now fs owing rs = if leb until now then last_move until rs else Some (next_before until now fs owing rs)

-- the releases to come after a move
abbrev pub coming_after : Move → List Release → List Release
coming_after (submit r) rs = drop 1 rs
coming_after _ rs = rs

-- the release that a move submits, if it submits one
abbrev pub submitted_by : Move → List Release
submitted_by (submit r) = r ∷ []
submitted_by _ = []

-- the releases that moves submit, in order
abbrev pub submitted : List Move → List Release
submitted [] = []
submitted (m ∷ ms) = submitted_by m ++ submitted ms

-- the charge that a move makes, if it makes one
abbrev pub charged_by : Move → Option Charge
charged_by (charge s n) = Some (record { server = s; ticks = n })
charged_by _ = None

-- the charge of this many ticks to a server, if there are any
abbrev pub owing_of : ℕ → ℕ → Option Charge
owing_of s zero = None
owing_of s (suc n) = Some (record { server = s; ticks = suc n })

-- a simulation: the steps made so far, the releases to come, and what is owed for the last unit
pub record Simulation (W : Type 0) : Type 0 where
  pub history : History W
  pub coming : List Release
  pub owing : Option Charge

module _ {W : Type 0} (work : Meaning W) where
  -- the overrun of job q of server s: its output
  abbrev pub overrun_in : World W → ℕ → ℕ → ℕ
  overrun_in w s q = get_or (map work.output (account w.accounts s).accepted) q 0

  -- the charge that is owed for a unit, by the result of its run: the overrun of the unit's job, charged to its server
  abbrev pub owing_for : World W → Ran → Option Charge
  owing_for w (ran.Unit s q) = owing_of s (overrun_in w s q)
  owing_for w (ran.Done c) = owing_of c.server (overrun_in w c.server c.seq)
  owing_for w _ = None

module _ {W : Type 0} (work : Meaning W) (job : Release → W) where
  -- the step of a core that stands for a move
  abbrev pub step_of : Move → Step W
  step_of (submit r) = step.Submit r.server (job r)
  step_of run = step.Run
  step_of (pass n) = step.Advance n
  step_of (charge s n) = step.Charge s n

  -- the clock of a simulation
  abbrev pub clock_of : Simulation W → ℕ
  clock_of sim = (world_after work sim.history).now

  -- the next move of a simulation
  abbrev pub next_of : ℕ → Simulation W → Option Move
  next_of until sim = next_move until (clock_of sim) (faces work (world_after work sim.history)) sim.owing sim.coming

  -- what is owed after a move
  abbrev pub owing_after : Simulation W → Move → Option Charge
  owing_after sim (submit r) = sim.owing
  owing_after sim run = owing_for work (world_after work sim.history) (ran_in (reply_in work sim.history step.Run))
  owing_after sim (pass n) = None
  owing_after sim (charge s n) = None

  -- the simulation after a move
  abbrev pub after_move : Simulation W → Move → Simulation W
  after_move sim m = record { history = sim.history ⊕ step_of m; coming = coming_after m sim.coming; owing = owing_after sim m }

  -- the simulation after some moves
  abbrev pub after_moves : Simulation W → List Move → Simulation W
  after_moves sim [] = sim
  after_moves sim (m ∷ ms) = after_moves (after_move sim m) ms

  -- each of the moves is the next one where it stands
  abbrev pub AreNext : ℕ → Simulation W → List Move → Type 0
  AreNext until sim [] = Unit {0}
  AreNext until sim (m ∷ ms) = (next_of until sim ≡ Some m) × AreNext until (after_move sim m) ms

  -- the moves are all that there are: each is the next one, and after them there is none
  pub record AreMoves (until : ℕ) (sim : Simulation W) (ms : List Move) : Type 0 where
    pub each : AreNext until sim ms
    pub ended : next_of until (after_moves sim ms) ≡ None

  -- at most this many moves, each the next one
  unfoldable pub moves_within : ℕ → ℕ → Simulation W → List Move
  moves_within zero until sim = []
  moves_within (suc k) until sim = option_map_or (λ m. m ∷ moves_within k until (after_move sim m)) (next_of until sim) []

  -- the moves of a simulation. There are at most as many as ticks to `until` and releases to come, together
  abbrev pub moves_of : ℕ → Simulation W → List Move
  moves_of until sim = moves_within ((until - clock_of sim) + length sim.coming) until sim
