-- One stream of jobs on a server that is charged for their units: by when each job is finished, and that it is
-- accepted.
use Rattle.std.specs.Prelude.{◌≡◌, ℕ, ◌+◌, ◌*◌, ◌≤◌, ◌<◌, eqb, if◌then◌else◌, List, [], ◌∷◌, None}
use Rattle.cbs_job.specs.Work.{Meaning}
use Rattle.cbs_steps.specs.Charged.{charged_due, others_charges, IsEndOf}
use Rattle.cbs_steps.specs.Faces.{submit_refusal}
use Rattle.cbs_steps.specs.HardTasks.{slot_submitted}
use Rattle.cbs_steps.specs.History.{Setup, History, account, faces, after, world_after, charge_refusal}
use Rattle.cbs_steps.specs.Laws.{account_in}
use Rattle.cbs_steps.specs.Promises.{when, IsJobOf, IsFinished}
use Rattle.cbs_steps.specs.Quiet.{AdvanceQuietly}
use Rattle.cbs_steps.specs.declared.step.Step.{Step}
use Rattle.cbs_steps.specs.declared.step.Step.TheVariants.{Submit, Charge}
use Rattle.cbs_guarantee.specs.Streams.{span_of, Accepts}

module _ {W : Type 0} (work : Meaning W) (setup : Setup) (s : ℕ) where
  -- the units before the last job after one more step: only an accepted submit to s is another job
  abbrev pub units_next : List (Step W) → ℕ → Step W → ℕ
  units_next M before (Submit t job) =
      let w = after work setup M in
      if eqb t s then slot_submitted before (account w.accounts s).got (submit_refusal setup.backlog (faces work w) t) else before
  units_next M before _ = before

  -- the units that server s had got when its last job came; 0 before the first job
  abbrev pub units_before : List (Step W) → ℕ
  units_before [] = 0
  units_before (x ∷ M) = units_next M (units_before M) x

module _ {W : Type 0} (work : Meaning W) (setup : Setup) (s every : ℕ) where
  -- The tick when the next job may come, after one more step after M. Only an accepted submit to s is another job of
  -- the stream
  abbrev pub opens_next : List (Step W) → ℕ → Step W → ℕ
  opens_next M before (Submit t job) =
      if eqb t s then slot_submitted before ((after work setup M).now + every) (submit_refusal setup.backlog (faces work (after work setup M)) t) else before
  opens_next M before _ = before

  -- the tick when the next job may come: `every` ticks after the last job that server s accepted; 0 before the first
  abbrev pub opens_after : List (Step W) → ℕ
  opens_after [] = 0
  opens_after (x ∷ M) = opens_next M (opens_after M) x

  -- if the step gives server s a job, the job does not come early
  abbrev pub IsApartStep : List (Step W) → Step W → Type 0
  IsApartStep M (Submit t job) = t ≡ s → submit_refusal setup.backlog (faces work (after work setup M)) t ≡ None → opens_after M ≤ (after work setup M).now
  IsApartStep M _ = Unit {0}

  -- All jobs of server s are those of one stream: they come at least `every` ticks apart. Each takes at most `ticks`:
  -- its units, and what the server is charged from its submit to the next
  abbrev pub IsOneStream : ℕ → List (Step W) → Type 0
  IsOneStream ticks [] = Unit {0}
  IsOneStream ticks (x ∷ M) = IsOneStream ticks M × (IsApartStep M x × ((charged_due work setup s (x ∷ M)).units ≤ ticks))

  -- If the step gives server s a job, it has at most so many units and does not come early. If the step charges server
  -- s a tick or more, the server has got a unit since its last job came. It is charged at most `overrun` ticks for that
  -- unit in total
  abbrev pub IsOverrunStep : ℕ → ℕ → List (Step W) → Step W → Type 0
  IsOverrunStep units overrun M (Submit t job) = t ≡ s → submit_refusal setup.backlog (faces work (after work setup M)) t ≡ None
      → (work.left job ≤ units) × (opens_after M ≤ (after work setup M).now)
  IsOverrunStep units overrun M (Charge t n) = t ≡ s → charge_refusal (after work setup M) t n ≡ None
      → (let a = account (after work setup M).accounts s in (0 < n → units_before work setup s M < a.got) × (a.latest + n ≤ overrun))
  IsOverrunStep units overrun M _ = Unit {0}

  -- All jobs of server s have at most so many units and come at least `every` ticks apart. Each unit is charged at most
  -- `overrun` ticks, before the next job comes
  abbrev pub AreOverruns : ℕ → ℕ → List (Step W) → Type 0
  AreOverruns units overrun [] = Unit {0}
  AreOverruns units overrun (x ∷ M) = AreOverruns units overrun M × IsOverrunStep units overrun M x

module _ {W : Type 0} (work : Meaning W) (N : History W) (s : ℕ) where
  -- the span of so many ticks, on server s
  abbrev pub span_on : ℕ → ℕ
  span_on ticks = span_of (account_in work N s).terms.reservation ticks

  -- All jobs of server s are those of one stream, and the others were charged at most `delay` ticks. Each job is
  -- finished before the next comes.
  pub record IsAlone (ticks every delay : ℕ) : Type 0 where
    pub stream : IsOneStream work N.setup s every ticks N.steps
    pub others : others_charges (world_after work N).accounts s ≤ delay
    pub apart : span_on ticks + delay ≤ every

module _ {W : Type 0} where
  -- Let a server have one stream. Then each job is finished its span after it came, and later by no more than what the
  -- others were charged. This holds if each job is then finished before the next comes.
  abbrev pub KeepsOverruns : Meaning W → History W → Type 0
  KeepsOverruns work N = AdvanceQuietly work N.setup N.steps → (s ticks every delay : ℕ) → IsAlone work N s ticks every delay
      → (K M : List (Step W)) (job : W) → IsJobOf work N K M s job
      → (world_after work (when N M)).now + span_on work N s ticks + others_charges (world_after work N).accounts s ≤ (world_after work N).now
      → IsFinished work N M s

  -- Each such job ends its span after it came, its last charge included, and later by no more than what the others were
  -- charged.
  abbrev pub KeepsOverrunEnds : Meaning W → History W → Type 0
  KeepsOverrunEnds work N = AdvanceQuietly work N.setup N.steps → (s ticks every delay : ℕ) → IsAlone work N s ticks every delay
      → (C K M : List (Step W)) (job : W) → IsEndOf work N C K M s job
      → (world_after work N).now ≤ (world_after work (when N M)).now + span_on work N s ticks + others_charges (world_after work N).accounts s

  -- The server accepts each job that does not come early.
  abbrev pub KeepsAcceptingOverruns : Meaning W → History W → Type 0
  KeepsAcceptingOverruns work N = AdvanceQuietly work N.setup N.steps → (s ticks every delay : ℕ) → IsAlone work N s ticks every delay → 0 < N.setup.backlog
      → opens_after work N.setup s every N.steps ≤ (world_after work N).now → Accepts work N s

  -- Let each unit be charged at most `overrun` ticks, before the next job comes. Then a job of at most `units` units
  -- takes at most `units * (1 + overrun)` ticks, if it is then finished before the next comes.
  abbrev pub KeepsUnits : Meaning W → History W → Type 0
  KeepsUnits work N = AdvanceQuietly work N.setup N.steps → (s units overrun every delay : ℕ) → AreOverruns work N.setup s every units overrun N.steps
      → others_charges (world_after work N).accounts s ≤ delay → span_on work N s (units * (1 + overrun)) + delay ≤ every
      → IsOneStream work N.setup s every (units * (1 + overrun)) N.steps
