-- Only the number of units of a job counts.
use Rattle.std.specs.Prelude.{◌≡◌, List, map}
use Rattle.cbs_job.specs.Work.{Meaning}
use Rattle.cbs_steps.specs.History.{History, faces, runner, world_after}
use Rattle.cbs_steps.specs.Laws.{replies_after}
use Rattle.cbs_steps.specs.declared.step.Step.{Step}
use Rattle.cbs_units.specs.Counting.{counting, counted_step, counted_history, counted_world, counted_reply}

module _ {W : Type 0} where
  -- with each job as its units, the steps lead to the same world
  abbrev pub KeepsWorld : Meaning W → History W → Type 0
  KeepsWorld work M = world_after counting (counted_history work M) ≡ counted_world work (world_after work M)

  -- so what is seen of the servers is the same
  abbrev pub KeepsFaces : Meaning W → History W → Type 0
  KeepsFaces work M = faces counting (world_after counting (counted_history work M)) ≡ faces work (world_after work M)

  -- the next Run is for the same server, or for none
  abbrev pub KeepsChoice : Meaning W → History W → Type 0
  KeepsChoice work M = runner counting (world_after counting (counted_history work M)) ≡ runner work (world_after work M)

  -- the steps xs after M get the same replies, but for the results of jobs
  abbrev pub KeepsReplies : Meaning W → History W → List (Step W) → Type 0
  KeepsReplies work M xs =
      replies_after counting (counted_history work M) (map (counted_step work) xs) ≡ map (counted_reply work) (replies_after work M xs)
