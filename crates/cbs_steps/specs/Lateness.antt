-- How late a server can be, if units take longer than a tick and their servers are charged for it.
use Rattle.std.specs.Prelude.{◌≡◌, ℕ, ◌+◌, ◌<◌, true, ltb, if◌then◌else◌, List, length}
use Rattle.std.specs.List.{sum_by}
use Rattle.cbs_job.specs.Work.{Meaning}
use Rattle.cbs_steps.specs.Faces.{is_ready}
use Rattle.cbs_steps.specs.Accounts.{Account, face_of}
use Rattle.cbs_steps.specs.History.{World, History, account, world_after}
use Rattle.cbs_steps.specs.Quiet.{AdvanceQuietly}

module _ {W : Type 0} where
  -- the most that each server with a later deadline than d was charged for one unit, added up
  abbrev pub later_charges : ℕ → List (Account W) → ℕ
  later_charges d accounts = sum_by (λ a. if ltb d a.state.deadline then a.charges.most else 0) accounts

  -- if server s is ready, its deadline has passed by less than those charges
  abbrev pub IsLateByLess : Meaning W → World W → ℕ → Type 0
  IsLateByLess work w s =
      let d = (account w.accounts s).state.deadline in
      s < length w.accounts → is_ready (face_of work (account w.accounts s)) ≡ true → w.now < d + later_charges d w.accounts

  -- If each advance was quiet, the deadline of a ready server has passed by less than some charges, added up. They are
  -- the greatest for one unit of each server with a later deadline
  abbrev pub KeepsLateness : Meaning W → History W → Type 0
  KeepsLateness work N = AdvanceQuietly work N.setup N.steps → (s : ℕ) → IsLateByLess work (world_after work N) s
