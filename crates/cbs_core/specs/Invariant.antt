-- The invariant of a core. Definitions for this crate alone: public contracts speak of agreement.
use Rattle.std.specs.Prelude.{true, ◌≡◌, ◌≢◌, ℕ, ◌≤◌, ◌<◌, List, length}
use Rattle.std.specs.List.{AllByRecursion, AllZip}
use Rattle.cbs_rate.specs.Limits.{most_backlog, most_servers}
use Rattle.cbs_job.specs.Work.{Meaning}
use Rattle.cbs_rate.specs.Plan.{total_share, all_periods}
use Rattle.cbs_rules.specs.Rules.{clock_end}
use Rattle.cbs_ready.specs.ReadyList.{listed, IsOrdered}
use Rattle.cbs_ready.specs.declared.entries.Entry.{Entry}
use Rattle.cbs_steps.specs.Faces.{Face, face_at, ready_by, backlog_of, reservations}
use Rattle.cbs_steps.specs.Servers.{IsServer}
use Rattle.cbs_core.specs.declared.last_unit.LastUnit.{LastUnit}
use Rattle.cbs_core.specs.Held.{CoreHeld}

-- the list is in order, and holds exactly the ready servers, each with its deadline
pub record ListsReady (es : List Entry) (faces : List Face) : Type 0 where
  pub ordered : IsOrdered es
  pub each : (s : ℕ) → listed es s ≡ ready_by (face_at faces s)

-- a server holds as many jobs as its backlog says, and each job has a unit left
pub record HoldsBacklog {W : Type 0} (work : Meaning W) (jobs : List W) (f : Face) : Type 0 where
  pub counted : length jobs ≡ backlog_of f
  pub unfinished : AllByRecursion (λ w. 0 < work.left w) jobs

-- a job of the server is unfinished, and got a unit: fewer jobs are finished than ticks have passed
pub record IsUnfinished (clock : ℕ) (f : Face) : Type 0 where
  pub active : f.finished < f.accepted
  pub early : f.finished < clock

-- what is known of the last unit is from no later tick. A server that runs is there and has had its first deadline
pub record IsLastUnit (clock : ℕ) (faces : List Face) (l : LastUnit) : Type 0 where
  pub advanced : l.advanced_to ≤ clock
  pub charged : l.charged_to ≤ clock
  pub few : l.charged ≤ clock
  pub there : l.advanced_to ≢ clock → l.server < length faces
  pub begun : l.advanced_to ≢ clock → 0 < (face_at faces l.server).state.deadline
  pub unfinished : l.unfinished ≡ true → IsUnfinished clock (face_at faces l.server)

-- the invariant of every core; the total bandwidth of its servers is at most one, as in every plan
pub record IsCore {W : Type 0} (work : Meaning W) (core : CoreHeld W) : Type 0 where
  pub few : length core.faces ≤ most_servers
  pub small : core.backlog ≤ most_backlog
  pub clock : core.clock ≤ clock_end
  pub at_most_one : total_share (reservations core.faces) ≤ all_periods (reservations core.faces)
  pub each : AllByRecursion (IsServer core.backlog core.clock) core.faces
  pub jobs : AllZip (HoldsBacklog work) core.queues core.faces
  pub last : IsLastUnit core.clock core.faces core.last
