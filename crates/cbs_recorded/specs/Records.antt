-- A core whose steps a tape was told, and a core that makes the steps of the tape.
use Rattle.std.specs.Prelude.{◌≡◌, true, false, List, [], ◌++◌, map, Option, Some, None, Box}
use Rattle.cbs_job.specs.Work.{Meaning}
use Rattle.cbs_steps.specs.History.{Setup, History, faces, world_after}
use Rattle.cbs_steps.specs.Continuations.{◌⊕⊕◌}
use Rattle.cbs_steps.specs.declared.step.Step.{Step}
use Rattle.cbs_core.specs.Agreement.{Agrees, Follows}
use Rattle.cbs_core.specs.Held.{CoreHeld}
use Rattle.cbs_units.specs.declared.count.CountJob.{CountJob}
use Rattle.cbs_units.specs.Counting.{counting, counted, counted_step}
use Rattle.cbs_tape.specs.Tapes.{Taped, Hears, HearsEach}

-- The core made some steps, from old to new, and the tape was told each of them, with its job as its units
pub record Records {W : Type 0} (work : Meaning W) (old new : CoreHeld W) (before after : Taped) : Type 0 where
  pub steps : List (Step W)
  pub follows : Follows work old new steps
  pub told : HearsEach (map (counted_step work) steps) before after

-- the tape in the box, if there is one
abbrev pub tape_in : {A : Type 0} → Option (Box Taped A) → Option Taped
tape_in None = None
tape_in (Some b) = Some b.value

-- a tape that may be there was told a step
abbrev pub HearsIfThere : Step CountJob → Option Taped → Option Taped → Type 0
HearsIfThere x None after = after ≡ None
HearsIfThere x (Some before) after = (tape : Taped) × (after ≡ Some tape) × Hears x before tape

-- the same of a tape that may be there: if there is none, there is none after the steps
abbrev pub Recorded : {W : Type 0} → Meaning W → CoreHeld W → CoreHeld W → Option Taped → Option Taped → Type 0
Recorded work old new None after = after ≡ None
Recorded work old new (Some before) after = (tape : Taped) × (after ≡ Some tape) × Records work old new before tape

-- The tape, if there is one, lost a step that it cannot tell: it has the same steps, and is not whole any more
abbrev pub Loses : Option Taped → Option Taped → Type 0
Loses None after = after ≡ None
Loses (Some before) after = (tape : Taped) × (after ≡ Some tape) × (tape.steps ≡ before.steps) × (tape.whole ≡ false)

-- both cores show the same: the clock, and of each server its budget, deadline, overrun and charges, how many jobs it
-- accepted and finished, and whether it is closed
pub record ShowsTheSame {W : Type 0} (other : CoreHeld CountJob) (core : CoreHeld W) : Type 0 where
  pub clock : other.clock ≡ core.clock
  pub faces : other.faces ≡ core.faces

-- servers with no step made
abbrev pub started : {W : Type 0} → Setup → History W
started setup = record { setup = setup; steps = [] }

-- what a core holds, of each job only the units that are left
abbrev pub counted_core : {W : Type 0} → Meaning W → CoreHeld W → CoreHeld CountJob
counted_core work core = record {
  backlog = core.backlog;
  clock = core.clock;
  last = core.last;
  faces = core.faces;
  queues = map (map (counted work)) core.queues;
  rooms = core.rooms;
}

module _ {W : Type 0} where
  -- A core of this setup made steps from the first on, and an empty tape was told each. If the tape is whole, each core
  -- that agrees with its steps shows what the recorded core shows
  abbrev pub AsItWas : Meaning W → Type 0
  AsItWas work = (setup : Setup) (first last : CoreHeld W) (empty tape : Taped) (other : CoreHeld CountJob)
      → Agrees work first (started setup) → empty.steps ≡ [] → Records work first last empty tape → tape.whole ≡ true
      → Agrees counting other (started setup ⊕⊕ tape.steps) → ShowsTheSame other last

  -- The tape was told the steps from some state on. Each core that begins with what was held then, of each job the units
  -- that were left, and makes the steps of the tape, shows what the recorded core shows
  abbrev pub AsItWasFrom : Meaning W → Type 0
  AsItWasFrom work = (M : History W) (first last : CoreHeld W) (empty tape : Taped) (begun other : CoreHeld CountJob)
      → Agrees work first M → begun ≡ record (counted_core work first) { rooms = begun.rooms }
      → empty.steps ≡ [] → Records work first last empty tape → tape.whole ≡ true
      → Follows counting begun other tape.steps → ShowsTheSame other last

  -- The core shows what some of the steps, the first of xs, left of this setup
  pub record ShowsFirst (work : Meaning W) (setup : Setup) (xs : List (Step W)) (other : CoreHeld CountJob) : Type 0 where
    pub kept : List (Step W)
    pub gone : List (Step W)
    pub all : xs ≡ kept ++ gone
    pub clock : other.clock ≡ (world_after work (started setup ⊕⊕ kept)).now
    pub faces : other.faces ≡ faces work (world_after work (started setup ⊕⊕ kept))

  -- A core of this setup made steps from the first on, and an empty tape was told each. Whole or not, each core that agrees
  -- with the steps of the tape shows what the first steps of the recorded core left, however many
  abbrev pub AsItBegan : Meaning W → Type 0
  AsItBegan work = (setup : Setup) (first last : CoreHeld W) (empty tape : Taped) (other : CoreHeld CountJob)
      → empty.steps ≡ [] → (records : Records work first last empty tape)
      → Agrees counting other (started setup ⊕⊕ tape.steps) → ShowsFirst work setup records.steps other
