-- What a contract says about the queues of jobs: the list of each server, and for how many more jobs there is room.
use Rattle.std.specs.Prelude.{◌≡◌, ◌≤◌, ◌<◌, ℕ, ◌+◌, ◌%◌, ◌^◌, eqb, if◌then◌else◌, List, [], ◌∷◌, map, length, drop, get_or, Option, Some, None}
use Rattle.std.specs.List.{sum_by, AllByRecursion}
use Rattle.cbs_rate.specs.Limits.{most_backlog, most_units}
use Rattle.cbs_job.specs.Work.{Meaning}
use Rattle.cbs_queues.specs.declared.queues.QueuedJob.{QueuedJob}

-- the queue of each server, and for each server how many more jobs fit without an allocation
pub record Queued (W : Type 0) : Type 0 where
  pub lists : List (List W)
  pub rooms : List ℕ

module _ {W : Type 0} where
  -- the queue of a server
  abbrev pub list_at : List (List W) → ℕ → List W
  list_at lists s = get_or lists s []

  -- the jobs of a queue
  abbrev pub jobs_of : List (QueuedJob W) → List W
  jobs_of queue = map (λ queued. queued.job) queue

  -- The counts of the jobs are right. For each job, the units taken in up to it, and those left of the jobs after it,
  -- are the server's units taken in, modulo 2^64
  abbrev pub AreCounted : Meaning W → List (QueuedJob W) → ℕ → Type 0
  AreCounted work [] total = Unit
  AreCounted work (first ∷ behind) total = ((first.taken_in + sum_by work.left (jobs_of behind)) % 2 ^ 64 ≡ total) × AreCounted work behind total

  -- A queue whose server has taken in so many units. Each job after the first has at most the units that a task may
  -- have. There are at most as many jobs as a backlog holds
  pub record IsCounted (work : Meaning W) (queue : List (QueuedJob W)) (total : ℕ) : Type 0 where
    pub counted : AreCounted work queue total
    pub short : AllByRecursion (λ job. work.left job ≤ most_units) (jobs_of (drop 1 queue))
    pub few : length queue ≤ most_backlog

  -- the jobs after a unit of the first job, which leaves if the unit was its last
  abbrev pub jobs_run : Meaning W → List W → List W
  jobs_run work [] = []
  jobs_run work (job ∷ jobs) = if eqb (work.left (work.after job)) 0 then jobs else work.after job ∷ jobs

  -- the output of the first job after a unit, if the unit was its last
  abbrev pub result_run : Meaning W → List W → Option ℕ
  result_run work [] = None
  result_run work (job ∷ jobs) = if eqb (work.left (work.after job)) 0 then Some (work.output (work.after job)) else None

-- how many more jobs of server s fit without an allocation
abbrev pub room_of : List ℕ → ℕ → ℕ
room_of rooms s = get_or rooms s 0

-- a server that had room for a job still has room for one
abbrev pub KeepsRoom : List ℕ → List ℕ → Type 0
KeepsRoom old new = (t : ℕ) → 0 < room_of old t → 0 < room_of new t

-- the output so far of the first of these jobs, if there is one
abbrev pub front_output : {W : Type 0} → Meaning W → List W → Option ℕ
front_output work [] = None
front_output work (job ∷ jobs) = Some (work.output job)
