-- When a core agrees with a history. A core keeps no history: it agrees with every history that leaves what the core
-- holds.
use Rattle.std.specs.Prelude.{◌≡◌, ℕ, ◌+◌, ◌-◌, true, List, [], ◌∷◌, map}
use Rattle.std.specs.List.{AllZip}
use Rattle.cbs_job.specs.Work.{Meaning, whole}
use Rattle.cbs_steps.specs.Accounts.{Account, finished, need, unfinished}
use Rattle.cbs_steps.specs.History.{World, History, ◌⊕◌, account, faces, world_after}
use Rattle.cbs_steps.specs.Continuations.{◌⊕⊕◌, EachAllowed}
use Rattle.cbs_steps.specs.OnTime.{IsWorldOnTime}
use Rattle.cbs_steps.specs.Paced.{IsWorldPaced}
use Rattle.cbs_steps.specs.declared.step.Step.{Step}
use Rattle.cbs_steps.specs.Laws.{account_in}
use Rattle.cbs_hindsight.specs.Hindsight.{IsCut, EndsWithUnit, effective, ending, hindsight}
use Rattle.cbs_core.specs.Held.{CoreHeld, is_running, charged_at, IsCoreOnTime, IsCorePaced}

-- the list with its first number replaced
abbrev pub with_first_number : ℕ → List ℕ → List ℕ
with_first_number n [] = []
with_first_number n (x ∷ xs) = n ∷ xs

module _ {W : Type 0} where
  -- The jobs held for a server are its unfinished ones, each with its own whole result. Each job has all its units
  -- left, except the first. The first has left what the jobs up to it need, less the units the server got
  pub record AgreesJobs (work : Meaning W) (jobs : List W) (a : Account W) : Type 0 where
    pub results : map (whole work) jobs ≡ map (whole work) (unfinished work a)
    pub lefts : map work.left jobs ≡ with_first_number (need work a (finished work a + 1) - a.got) (map work.left (unfinished work a))

  -- what a core holds agrees with what a list of steps left
  pub record AgreesWorld (work : Meaning W) (core : CoreHeld W) (backlog : ℕ) (w : World W) : Type 0 where
    pub same_backlog : core.backlog ≡ backlog
    pub clock : core.clock ≡ w.now
    pub shown : core.faces ≡ faces work w
    pub jobs : AllZip (AgreesJobs work) core.queues w.accounts
    pub runs : (s : ℕ) → (account w.accounts s).runs ≡ is_running core s
    pub latest : (s : ℕ) → is_running core s ≡ true → (account w.accounts s).latest ≡ charged_at core.clock core.last

  -- The core agrees with the history. If the core says that the last unit left its job unfinished, the history ends
  -- with such a unit, but for steps that did nothing
  pub record Agrees (work : Meaning W) (core : CoreHeld W) (M : History W) : Type 0 where
    pub world : AgreesWorld work core M.setup.backlog (world_after work M)
    pub unit : core.last.unfinished ≡ true → EndsWithUnit work (effective work M) core.last.server

  -- `told` holds of the state after every history that the core agrees with
  abbrev pub TellsOf : Meaning W → CoreHeld W → (World W → Type 0) → Type 0
  TellsOf work core told = (M : History W) → Agrees work core M → told (world_after work M)

  -- the core agrees with some history: not every history disagrees with it
  abbrev pub HasHistory : Meaning W → CoreHeld W → Type 0
  HasHistory work core = ¬ ((M : History W) → ¬ Agrees work core M)

  -- the new core agrees with every history of the old core followed by the steps
  abbrev pub Follows : Meaning W → CoreHeld W → CoreHeld W → List (Step W) → Type 0
  Follows work old new xs = (M : History W) → Agrees work old M → Agrees work new (M ⊕⊕ xs)

  -- The first job of s that is unfinished after the history, as it is in hindsight if it ends then: a job that had only
  -- the units that it got
  abbrev pub ended : Meaning W → (ℕ → W → W) → ℕ → History W → History W
  ended work cut s M =
      let N = effective work M in
      hindsight work cut (ending work N s (finished work (account_in work N s))) N

  -- The new core agrees with every history of the old core in hindsight: as if the job of s that got the last unit had
  -- had only the units that it got. It is so for every way to make jobs shorter
  abbrev pub FollowsInHindsight : Meaning W → CoreHeld W → CoreHeld W → ℕ → Type 0
  FollowsInHindsight work old new s = (cut : ℕ → W → W) → IsCut work cut → (M : History W) → Agrees work old M → Agrees work new (ended work cut s M)

  -- each of the steps, made from this core on, is allowed at its place
  abbrev pub AllAllowed : Meaning W → (History W → Step W → Type 0) → CoreHeld W → List (Step W) → Type 0
  AllAllowed work allowed old xs = (M : History W) → Agrees work old M → EachAllowed allowed M xs

  -- if this core is on time, each of the steps leaves all on time
  abbrev pub AllOnTime : Meaning W → CoreHeld W → List (Step W) → Type 0
  AllOnTime work old xs = IsCoreOnTime old → AllAllowed work (λ N x. IsWorldOnTime work (world_after work (N ⊕ x))) old xs

  -- if this core is paced, each of the steps leaves all paced
  abbrev pub AllPaced : Meaning W → CoreHeld W → List (Step W) → Type 0
  AllPaced work old xs = IsCorePaced old → AllAllowed work (λ N x. IsWorldPaced work (world_after work (N ⊕ x))) old xs
