-- What a server gets while it stays active.
use Rattle.std.specs.Prelude.{◌≡◌, ℕ, ◌+◌, ◌*◌, ◌≤◌, true, List, [], ◌∷◌, ◌++◌}
use Rattle.cbs_job.specs.Work.{Meaning}
use Rattle.cbs_steps.specs.Faces.{is_active}
use Rattle.cbs_steps.specs.Accounts.{face_of}
use Rattle.cbs_steps.specs.History.{Setup, History, account, after, world_after}
use Rattle.cbs_steps.specs.Laws.{account_in}
use Rattle.cbs_steps.specs.Promises.{when}
use Rattle.cbs_steps.specs.Quiet.{AreQuiet}
use Rattle.cbs_steps.specs.declared.step.Step.{Step}

module _ {W : Type 0} where
  -- server s is active after M, and after each of the steps K that follow M
  abbrev pub StaysActive : Meaning W → Setup → ℕ → List (Step W) → List (Step W) → Type 0
  StaysActive work setup s M [] = is_active (face_of work (account (after work setup M).accounts s)) ≡ true
  StaysActive work setup s M (x ∷ K) = StaysActive work setup s M K × (is_active (face_of work (account (after work setup (x ∷ K ++ M)).accounts s)) ≡ true)

  -- while it stays active, throttled or not, a server gets its budget by its deadline, and one more budget by each
  -- period after
  abbrev pub KeepsSupply : Meaning W → History W → Type 0
  KeepsSupply work N = AreQuiet work N.setup N.steps → (K M : List (Step W)) (s j : ℕ) → N.steps ≡ K ++ M → StaysActive work N.setup s M K
      → (let a = account_in work (when N M) s in
      a.state.deadline + j * a.terms.reservation.period ≤ (world_after work N).now
      → a.got + a.state.budget + j * a.terms.reservation.budget ≤ (account_in work N s).got)
