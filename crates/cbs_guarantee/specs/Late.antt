-- Streams whose jobs are submitted late: after they were released, by no more than so many ticks. A host does so that submits
-- nothing while a unit is charged.
use Rattle.std.specs.Prelude.{ℕ, ◌+◌, ◌≤◌, ◌<◌, eqb, if◌then◌else◌, List, [], ◌∷◌, length, get_or, None, ◌≡◌}
use Rattle.cbs_job.specs.Work.{Meaning}
use Rattle.cbs_rate.specs.Rate.{Rate}
use Rattle.cbs_steps.specs.Charged.{others_charges, IsEndOf}
use Rattle.cbs_steps.specs.Faces.{submit_refusal}
use Rattle.cbs_steps.specs.History.{Setup, History, account, faces, after, world_after}
use Rattle.cbs_steps.specs.Promises.{IsJobOf, IsFinished}
use Rattle.cbs_steps.specs.Quiet.{AdvanceQuietly}
use Rattle.cbs_steps.specs.declared.step.Step.{Step}
use Rattle.cbs_steps.specs.declared.step.Step.TheVariants.{Submit}
use Rattle.cbs_guarantee.specs.Streams.{Stream, no_stream, new_streams, span_of, streams_submitted, jobs_of, all_spans, backlog_for, IsBearable, IsUncharged, Accepts}

-- the jobs are released in the order of their numbers
abbrev pub AreInOrder : (ℕ → ℕ) → Type 0
AreInOrder released = (p q : ℕ) → p ≤ q → released p ≤ released q

module _ {W : Type 0} (work : Meaning W) (setup : Setup) (s : ℕ) (released : ℕ → ℕ) (rates : List Rate) (of : ℕ → ℕ) where
  -- the streams after one more step after M: job q of server s belongs to stream `of q`, and came when it was released
  abbrev pub released_next : List (Step W) → List Stream → Step W → List Stream
  released_next M xs (Submit t job) =
      let q = jobs_of work setup s M in
      if eqb t s then streams_submitted xs (released q) (of q) (submit_refusal setup.backlog (faces work (after work setup M)) t) else xs
  released_next M xs _ = xs

  -- the streams after the steps
  abbrev pub released_after : List (Step W) → List Stream
  released_after [] = new_streams rates
  released_after (x ∷ M) = released_next M (released_after M) x

  -- The job may come next: its span is at most its stream's, and it was not released early. It is submitted once it was
  -- released, and no more than `passed` ticks later
  pub record IsReleasedJob (passed : ℕ) (M : List (Step W)) (job : W) : Type 0 where
    pub there : of (jobs_of work setup s M) < length rates
    pub small : span_of (account (after work setup M).accounts s).terms.reservation (work.left job)
        ≤ (get_or (released_after M) (of (jobs_of work setup s M)) no_stream).rate.budget
    pub apart : (get_or (released_after M) (of (jobs_of work setup s M)) no_stream).open_at ≤ released (jobs_of work setup s M)
    pub out : released (jobs_of work setup s M) ≤ (after work setup M).now
    pub late : (after work setup M).now ≤ released (jobs_of work setup s M) + passed

  -- if the step gives server s a job, it is such a job
  abbrev pub IsReleasedStep : ℕ → List (Step W) → Step W → Type 0
  IsReleasedStep passed M (Submit t job) = t ≡ s → submit_refusal setup.backlog (faces work (after work setup M)) t ≡ None → IsReleasedJob passed M job
  IsReleasedStep passed M _ = Unit {0}

  -- all jobs of server s are such jobs
  abbrev pub AreReleased : ℕ → List (Step W) → Type 0
  AreReleased passed [] = Unit {0}
  AreReleased passed (x ∷ M) = AreReleased passed M × IsReleasedStep passed M x

module _ {W : Type 0} where
  -- Let a server be charged nothing, and let its jobs be those of streams that ask for no more than all its time. Let each be
  -- submitted at most `passed` ticks after it was released. Then each job is finished `all_spans` and `passed` ticks after it
  -- was released. It is later by no more than what the others were charged.
  abbrev pub KeepsLate : Meaning W → History W → Type 0
  KeepsLate work N = AdvanceQuietly work N.setup N.steps → (s : ℕ) (released : ℕ → ℕ) (rates : List Rate) (of : ℕ → ℕ) (passed : ℕ)
      → IsBearable rates → AreInOrder released → IsUncharged work N s
      → (K M : List (Step W)) (job : W) → IsJobOf work N K M s job → AreReleased work N.setup s released rates of passed (Submit s job ∷ M)
      → released (jobs_of work N.setup s M) + all_spans rates + passed + others_charges (world_after work N).accounts s ≤ (world_after work N).now
      → IsFinished work N M s

  -- Each such job ends as soon.
  abbrev pub KeepsLateEnds : Meaning W → History W → Type 0
  KeepsLateEnds work N = AdvanceQuietly work N.setup N.steps → (s : ℕ) (released : ℕ → ℕ) (rates : List Rate) (of : ℕ → ℕ) (passed : ℕ)
      → IsBearable rates → AreInOrder released → IsUncharged work N s
      → (C K M : List (Step W)) (job : W) → IsEndOf work N C K M s job → AreReleased work N.setup s released rates of passed (Submit s job ∷ M)
      → (world_after work N).now ≤ released (jobs_of work N.setup s M) + all_spans rates + passed + others_charges (world_after work N).accounts s

  -- The server accepts each such job. This holds if the others are charged at most `delay` ticks, and the backlog suffices for
  -- as long as a job takes from its release on.
  abbrev pub KeepsLateAccepting : Meaning W → History W → Type 0
  KeepsLateAccepting work N = AdvanceQuietly work N.setup N.steps → (s : ℕ) (released : ℕ → ℕ) (rates : List Rate) (of : ℕ → ℕ) (passed delay : ℕ)
      → IsBearable rates → AreInOrder released → IsUncharged work N s
      → others_charges (world_after work N).accounts s ≤ delay → backlog_for (all_spans rates + delay + passed) rates ≤ N.setup.backlog
      → AreReleased work N.setup s released rates of passed N.steps
      → (job : W) → IsReleasedJob work N.setup s released rates of passed N.steps job → Accepts work N s
