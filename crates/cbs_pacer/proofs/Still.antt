-- An advance by no tick is a step of a house that did nothing.
use Rattle.std.proofs.Common.{◌≡◌, ℕ, [], ◌∷◌, refl, sym}
use Rattle.std.proofs.lemmas.List.{append-nil}
use Rattle.cbs_job.specs.Work.{Meaning}
use Rattle.cbs_job.specs.declared.work.Work.{Ghosts}
use Rattle.cbs_core.specs.Agreement.{Agrees, Follows}
use Rattle.cbs_core.specs.Held.{CoreHeld}
use Rattle.cbs_core.proofs.Agreements.{advance_none}
use Rattle.cbs_hindsight.proofs.Hindsight.{ends_beside}
use Rattle.cbs_steps.specs.History.{History, ◌⊕◌, world_after}
use Rattle.cbs_steps.specs.declared.step.Step.TheVariants.{Advance}
use Rattle.cbs_clients.specs.declared.house.House.{House}
use Rattle.cbs_clients.specs.Houses.{core_of, received, known, Made}
use Rattle.cbs_clients.proofs.MadeSteps.{made_nothing}

module _ {W : Type 0} (work : Meaning W) where
  -- it leaves the world, and the core
  world_still : (core : CoreHeld W) (M : History W) (n : ℕ) → n ≡ 0 → Agrees work core M → world_after work (M ⊕ Advance n) ≡ world_after work M
  world_still core M n none agrees = advance_none {core = core} refl agrees n none

  core_still : (core : CoreHeld W) (n : ℕ) → n ≡ 0 → Follows work core core (Advance n ∷ [])
  core_still core n none = λ M agrees. record {
    world = rw (world_still core M n none agrees) agrees.world;
    unit = λ u. ends_beside work M (Advance n) core.last.server tt (agrees.unit u);
  }

module _ {W A : Type 0} {g : Ghosts W} (work : Meaning W) where
  pub made_still : (a : House W A g) (n : ℕ) → n ≡ 0 → Made work a a (Advance n ∷ [])
  made_still a n none = record {
    steps = core_still work (core_of a) n none;
    keeps_time = λ M agrees. (λ quiet on. rw (world_still work (core_of a) M n none agrees) on, tt);
    keeps_pace = λ M agrees. (λ quiet on. rw (world_still work (core_of a) M n none agrees) on, tt);
    rings = refl;
    recorded = (made_nothing work a).recorded;
    seats = λ s. record { received = sym (append-nil (received a s)); known = ([], append-nil (known a s)); handed = refl; early = refl };
  }
