-- What a core keeps of the servers that wait for replenishment. Definitions for this crate alone.
use Rattle.std.specs.Prelude.{◌≡◌, ◌≤◌, min, List}
use Rattle.cbs_steps.specs.Faces.{Face}
use Rattle.cbs_steps.specs.Waiting.{most, IsNotDueBefore, NoneDueBefore, wake, wake_of}
use Rattle.cbs_core.specs.declared.waits.Waits.{Waits}

-- both ticks are right for these servers
pub record Keeps (w : Waits) (faces : List Face) : Type 0 where
  pub due : NoneDueBefore w.due faces
  pub wakes : w.wakes ≡ wake_of faces

-- what is kept after one more server is taken into account
pub record IsNoted (w : Waits) (f : Face) (after : Waits) : Type 0 where
  pub earlier : after.due ≤ w.due
  pub due : IsNotDueBefore after.due f
  pub wakes : w.wakes ≤ most → after.wakes ≡ min w.wakes (wake f)
