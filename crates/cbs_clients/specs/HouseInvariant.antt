-- The invariant of a house.
use Rattle.std.specs.Prelude.{ℕ, ◌≡◌, ◌+◌, ◌<◌, ◌≤◌, Bool, true, false, List, ◌++◌, drop, length, map}
use Rattle.cbs_job.specs.declared.work.Work.{Ghosts}
use Rattle.cbs_job.specs.Work.{Meaning, whole}
use Rattle.cbs_core.specs.Held.{Held, CoreHeld, held_at}
use Rattle.cbs_clients.specs.declared.message.Message.{Message}
use Rattle.cbs_clients.specs.declared.rings.Rings.{Rings}
use Rattle.cbs_results.specs.Collected.{Shelved, shelf_at}
use Rattle.cbs_clients.specs.Messages.{jobs_among, has_end, end_is_last}
use Rattle.cbs_clients.specs.Rings.{rings_in, received_in}
use Rattle.cbs_core.specs.Agreement.{HasHistory}

-- What a house keeps of one server, whose first `handed` results were handed out. `early` says whether one of its jobs
-- ended early. If none did, its results, followed by the whole results of the jobs held, are those of the jobs
-- received, in order, without the ones handed out. The jobs held are always the last ones received. The server accepted
-- each job received, and finished as many as results were handed out or are kept. It is closed exactly if an end was
-- received, and the end is then the last message.
pub record KeepsServer {W : Type 0} (work : Meaning W) (h : Held W) (received : List (Message W)) (handed : ℕ) (early : Bool) (results : List ℕ) : Type 0 where
  pub outputs : early ≡ false → results ++ map (whole work) h.jobs ≡ drop handed (map (whole work) (jobs_among received))
  pub held : map (whole work) h.jobs ≡ drop (handed + length results) (map (whole work) (jobs_among received))
  pub within : handed + length results ≤ length (jobs_among received)
  pub accepted : h.face.accepted ≡ length (jobs_among received)
  pub finished : h.face.finished ≡ handed + length results
  pub closed : h.face.closed ≡ has_end received
  pub last : end_is_last received ≡ true

-- the same, if what is said of its results is said of its shelf
abbrev pub KeepsShelf : {W : Type 0} → Meaning W → Held W → List (Message W) → Shelved → Type 0
KeepsShelf work h received shelf = KeepsServer work h received shelf.handed shelf.early shelf.results

-- What is true of the parts of a house. There are a ring and a shelf for each server, and a place for the result of
-- each accepted job. There is a history that the core agrees with, and the backlog is at least one job
pub record Housed {W A : Type 0} {g : Ghosts W} (work : Meaning W) (core : CoreHeld W) (rings : Rings W A g) (collector : List Shelved) : Type 0 where
  pub ring_count : length (rings_in rings) ≡ length core.faces
  pub shelf_count : length collector ≡ length core.faces
  pub servers : (s : ℕ) → s < length core.faces → KeepsShelf work (held_at core s) (received_in rings s) (shelf_at collector s)
  pub announced : (s : ℕ) → s < length core.faces → (shelf_at collector s).announced ≡ (held_at core s).face.accepted
  pub history : HasHistory work core
  pub backlog : 0 < core.backlog
