-- Moves of a house that is paced.
use Rattle.std.proofs.Common.{ℕ, List}
use Rattle.cbs_job.specs.Work.{Meaning}
use Rattle.cbs_job.specs.declared.work.Work.{Ghosts}
use Rattle.cbs_core.specs.Agreement.{HasHistory}
use Rattle.cbs_steps.specs.Continuations.{EachAllowed}
use Rattle.cbs_steps.specs.History.{History}
use Rattle.cbs_steps.specs.Quiet.{IsQuietAdvanceAfter}
use Rattle.cbs_steps.specs.declared.step.Step.{Step}
use Rattle.cbs_clients.specs.declared.house.House.{House}
use Rattle.cbs_host.specs.declared.poll.Poll.{Poll}
use Rattle.cbs_host.specs.Meters.{NothingBeyond}
use Rattle.cbs_clients.specs.Houses.{core_of, IsHousePaced, Made, Polled, ServesBy}
use Rattle.cbs_clients.specs.Meters.{all_steps}
use Rattle.cbs_core.proofs.OnTimeCores.{kept_on, paced_carried}
use Rattle.cbs_clients.proofs.Moves.{serves_poll}

module _ {W A : Type 0} {g : Ghosts W} (work : Meaning W) where
  -- a house that is paced is so after steps that advance quietly
  pub made_paced : (a b : House W A g) (xs : List (Step W)) → HasHistory work (core_of a) → Made work a b xs
      → ((M : History W) → EachAllowed (IsQuietAdvanceAfter work) M xs) → IsHousePaced a → IsHousePaced b
  made_paced a b xs history made quiet = kept_on work (paced_carried work) (IsQuietAdvanceAfter work) (core_of a) (core_of b) xs history made.steps
      made.keeps_pace (λ M agrees. quiet M)

  -- so after serving, whatever the meter returns
  pub serves_paced : (may : ℕ → ℕ → Type 0) (a b : House W A g) → HasHistory work (core_of a) → ServesBy work may a b → IsHousePaced a → IsHousePaced b
  serves_paced may a b history s =
      let m = s.moves.1 in
      kept_on work (paced_carried work) (IsQuietAdvanceAfter work) (core_of a) (core_of b) (all_steps m.moves) history m.made.steps m.made.keeps_pace
      m.quiet

  -- and after a poll
  pub polled_paced : (a b : House W A g) (s : ℕ) (p : Poll) → HasHistory work (core_of a) → Polled work a s p b → IsHousePaced a → IsHousePaced b
  polled_paced a b s p history k = serves_paced NothingBeyond a b history (serves_poll work NothingBeyond a b s p k)
