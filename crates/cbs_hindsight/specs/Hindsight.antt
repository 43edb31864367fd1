-- A job that ends early, in hindsight: with a shorter job in its place, the same steps lead to the same world.
use Rattle.std.specs.Prelude.{◌≡◌, ◌≢◌, ℕ, ◌-◌, ◌≤◌, ◌<◌, Bool, false, ◌&&◌, eqb, if◌then◌else◌, List, [], ◌∷◌, ◌++◌, length, map, get_or}
use Rattle.std.specs.List.{AllByRecursion}
use Rattle.std.specs.Option.{is_some, is_none}
use Rattle.cbs_job.specs.Work.{Meaning, whole}
use Rattle.cbs_job.specs.declared.completion.Completion.{Completion}
use Rattle.cbs_lists.specs.Lists.{changed_at}
use Rattle.cbs_steps.specs.Accounts.{Account, need, finished}
use Rattle.cbs_steps.specs.Faces.{submit_refusal}
use Rattle.cbs_steps.specs.History.{World, Setup, History, faces, runner, after, world_after, reply_to, reply_in}
use Rattle.cbs_steps.specs.Laws.{account_in}
use Rattle.cbs_steps.specs.Promises.{when, owed}
use Rattle.cbs_steps.specs.declared.reply.Ran.TheVariants as ran
use Rattle.cbs_steps.specs.declared.reply.Reply.{Reply}
use Rattle.cbs_steps.specs.declared.reply.Reply.TheVariants as reply
use Rattle.cbs_steps.specs.declared.step.Step.{Step}
use Rattle.cbs_steps.specs.declared.step.Step.TheVariants.{Submit, Run, Advance, Close, Charge}

-- a job that ends early: its server, its number among the accepted jobs of the server, and the units that it got
pub record Ending : Type 0 where
  pub server : ℕ
  pub seq : ℕ
  pub units : ℕ

module _ {W : Type 0} where
  -- a way to make jobs shorter: cut n w is a job of n units, if w has that many
  abbrev pub IsCut : Meaning W → (ℕ → W → W) → Type 0
  IsCut work cut = (n : ℕ) (w : W) → n ≤ work.left w → work.left (cut n w) ≡ n

  -- there is such a way
  abbrev pub HasCut : Meaning W → Type 0
  HasCut work = (cut : ℕ → W → W) × IsCut work cut

  -- the account of the job's server, if the job had only the units that it got
  abbrev pub account_cut : (ℕ → W → W) → Ending → Account W → Account W
  account_cut cut e a = record a { accepted = changed_at (cut e.units) a.accepted e.seq }

  -- the world, if the job had only the units that it got: all else is the same
  abbrev pub world_cut : (ℕ → W → W) → Ending → World W → World W
  world_cut cut e w = record w { accounts = changed_at (account_cut cut e) w.accounts e.server }

  -- whether the reply accepts a job as the one of this number
  abbrev pub is_number : ℕ → Reply W → Bool
  is_number seq (reply.Accepted q) = eqb q seq
  is_number seq _ = false

  -- the step x, made in the world w: the submit of the job hands over the shorter job, and each other step is as it was
  abbrev pub step_cut : Meaning W → (ℕ → W → W) → Ending → ℕ → World W → Step W → Step W
  step_cut work cut e backlog w (Submit s job) =
      Submit s (if eqb s e.server && is_number e.seq (reply_to work backlog w (Submit s job)) then cut e.units job else job)
  step_cut work cut e backlog w x = x

  -- each of the steps so, the newest first
  abbrev pub steps_cut : Meaning W → (ℕ → W → W) → Ending → Setup → List (Step W) → List (Step W)
  steps_cut work cut e setup [] = []
  steps_cut work cut e setup (x ∷ M) = step_cut work cut e setup.backlog (after work setup M) x ∷ steps_cut work cut e setup M

  -- the history in hindsight: the same steps, but the job had only the units that it got
  abbrev pub hindsight : Meaning W → (ℕ → W → W) → Ending → History W → History W
  hindsight work cut e N = record N { steps = steps_cut work cut e N.setup N.steps }

  -- the replies to the steps, the newest first
  abbrev pub replies : Meaning W → Setup → List (Step W) → List (Reply W)
  replies work setup [] = []
  replies work setup (x ∷ M) = reply_to work setup.backlog (after work setup M) x ∷ replies work setup M

  -- whether the step x, made in the world w, does nothing: a submit that is refused, or a Run that runs no unit
  abbrev pub does_nothing : Meaning W → ℕ → World W → Step W → Bool
  does_nothing work backlog w (Submit s job) = is_some (submit_refusal backlog (faces work w) s)
  does_nothing work backlog w Run = is_none (runner work w)
  does_nothing work backlog w x = false

  -- the steps without those that did nothing
  abbrev pub effective_steps : Meaning W → Setup → List (Step W) → List (Step W)
  effective_steps work setup [] = []
  effective_steps work setup (x ∷ M) =
      if does_nothing work setup.backlog (after work setup M) x then effective_steps work setup M else x ∷ effective_steps work setup M

  -- the history without them
  abbrev pub effective : Meaning W → History W → History W
  effective work N = record N { steps = effective_steps work N.setup N.steps }

  -- the step neither runs a unit nor hands a job to server s
  abbrev pub IsBeside : ℕ → Step W → Type 0
  IsBeside s (Submit t job) = t ≢ s
  IsBeside s Run = ⊥
  IsBeside s (Advance n) = Unit {0}
  IsBeside s (Close t) = Unit {0}
  IsBeside s (Charge t n) = Unit {0}

  -- The last unit of N was one of job k of server s, and not the job's last: after M a Run was answered so. The steps K
  -- that followed are charges for that unit, say: none runs a unit or hands a job to s
  pub record IsAtUnit (work : Meaning W) (N : History W) (K M : List (Step W)) (s k : ℕ) : Type 0 where
    pub steps : N.steps ≡ K ++ Run ∷ M
    pub unit : reply_in work (when N M) Run ≡ reply.Ran (ran.Unit s k)
    pub beside : AllByRecursion (IsBeside s) K

  -- so it is of some job of server s
  pub record EndsWithUnit (work : Meaning W) (N : History W) (s : ℕ) : Type 0 where
    pub later : List (Step W)
    pub earlier : List (Step W)
    pub seq : ℕ
    pub at : IsAtUnit work N later earlier s seq

  -- the end of job k of server s, if it ends after N
  abbrev pub ending : Meaning W → History W → ℕ → ℕ → Ending
  ending work N s k = let a = account_in work N s in record { server = s; seq = k; units = a.got - need work a k }

  -- the completion of the job that had only the units that it got
  abbrev pub completion_cut : Meaning W → (ℕ → W → W) → Ending → Account W → Completion
  completion_cut work cut e a = record { server = e.server; seq = e.seq; result = get_or (map (λ w. whole work (cut e.units w)) a.accepted) e.seq 0 }

  -- Job k of server s ends early after N. In hindsight the steps lead to the same world, in which only the accepted job is
  -- another, and in which it is finished. The first steps of N do so, too, however many. After them no server is owed more
  -- than it was, so no promised tick is later. Each reply is as it was, except that of the Run which gave the job its last
  -- unit: K were the steps after it
  pub record EndsEarly (work : Meaning W) (cut : ℕ → W → W) (N : History W) (K : List (Step W)) (s k : ℕ) : Type 0 where
    pub world : let e = ending work N s k in world_after work (hindsight work cut e N) ≡ world_cut cut e (world_after work N)
    pub always : let e = ending work N s k in (J M : List (Step W)) → N.steps ≡ J ++ M
        → world_after work (hindsight work cut e (when N M)) ≡ world_cut cut e (world_after work (when N M))
    pub less : let e = ending work N s k in (J M : List (Step W)) → N.steps ≡ J ++ M → (t : ℕ)
        → owed work (account_in work (hindsight work cut e (when N M)) t) ≤ owed work (account_in work (when N M) t)
    pub finished : let e = ending work N s k in k < finished work (account_in work (hindsight work cut e N) s)
    pub replies : let e = ending work N s k in
        replies work N.setup (hindsight work cut e N).steps
        ≡ changed_at (λ _. reply.Ran (ran.Done (completion_cut work cut e (account_in work N s)))) (replies work N.setup N.steps) (length K)

  -- so does each job that got the last unit, if it is not finished by then, whatever the way to make it shorter
  abbrev pub KeepsHindsight : Meaning W → History W → Type 0
  KeepsHindsight work N = (cut : ℕ → W → W) → IsCut work cut → (K M : List (Step W)) (s k : ℕ) → IsAtUnit work N K M s k → EndsEarly work cut N K s k

  -- the steps without those that did nothing lead to the same world
  abbrev pub KeepsEffective : Meaning W → History W → Type 0
  KeepsEffective work N = world_after work (effective work N) ≡ world_after work N
