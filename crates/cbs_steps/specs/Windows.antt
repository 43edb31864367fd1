-- What a server takes in any window of a history.
use Rattle.std.specs.Prelude.{◌≡◌, ℕ, ◌<◌, List, ◌++◌, length}
use Rattle.cbs_job.specs.Work.{Meaning}
use Rattle.cbs_steps.specs.History.{History}
use Rattle.cbs_steps.specs.Laws.{account_in, IsWithinShare, IsWithinCap}
use Rattle.cbs_steps.specs.Promises.{when}
use Rattle.cbs_steps.specs.declared.step.Step.{Step}

module _ {W : Type 0} where
  -- no server takes more than its share in any window, from after the steps M to after the steps K that follow M
  abbrev pub KeepsShare : Meaning W → History W → Type 0
  KeepsShare work N = (L K M : List (Step W)) (s : ℕ) → N.steps ≡ L ++ K ++ M → s < length N.setup.servers
      → IsWithinShare (account_in work (when N M) s) (account_in work (when N (K ++ M)) s)

  -- In no such window does a server of throttled mode take more than IsWithinCap allows. The cap is its budget, its
  -- share of the ticks, one budget, and its greatest charge for one unit
  abbrev pub KeepsCap : Meaning W → History W → Type 0
  KeepsCap work N = (L K M : List (Step W)) (s : ℕ) → N.steps ≡ L ++ K ++ M → s < length N.setup.servers
      → IsWithinCap work (when N M) (when N (K ++ M)) s
