-- A core that is on time or paced, and the steps that follow it.
use Rattle.std.proofs.Common.{◌≡◌, ℕ, suc, ◌+◌, List, [], ◌∷◌, map, arith, refl, sym, ◌∙◌, ap, subst, inl, inr}
use Rattle.std.proofs.lemmas.Bool.{cases_Bool}
use Rattle.cbs_job.specs.Work.{Meaning}
use Rattle.cbs_core.specs.Agreement.{Agrees, HasHistory, Follows, AllAllowed, AllOnTime, AllPaced}
use Rattle.cbs_core.specs.Held.{CoreHeld, pace_at, paces_from, is_running, IsCoreOnTime, IsCorePaced}
use Rattle.cbs_steps.specs.Accounts.{Account, face_of}
use Rattle.cbs_steps.specs.Continuations.{◌⊕⊕◌}
use Rattle.cbs_steps.specs.Faces.{Face}
use Rattle.cbs_steps.specs.History.{World, History, ◌⊕◌, account, world_after}
use Rattle.cbs_steps.specs.OnTime.{IsWorldOnTime, KeepsTime}
use Rattle.cbs_steps.specs.Paced.{IsPaced, pace_of, IsWorldPaced, KeepsPace}
use Rattle.cbs_steps.specs.Quiet.{IsQuietAfter, IsQuietAdvanceAfter}
use Rattle.cbs_steps.specs.declared.step.Step.{Step}
use Rattle.cbs_steps.proofs.OnTimeLists.{Keeps, on_time_stable, paced_stable, each_kept, last_kept}

module _ {W : Type 0} (work : Meaning W) where
  -- what a core that is on time agrees with is on time
  pub agreed_on_time : {core : CoreHeld W} (M : History W) → Agrees work core M → IsCoreOnTime core → IsWorldOnTime work (world_after work M)
  agreed_on_time {core} M agrees on = rw (agrees.world.clock, agrees.world.shown) at on

  -- and the other way round
  held_on_time : {core : CoreHeld W} (M : History W) → Agrees work core M → IsWorldOnTime work (world_after work M) → IsCoreOnTime core
  held_on_time {core} M agrees on = rw (agrees.world.clock, agrees.world.shown) on

  -- pacing looks at the same in a core and in the accounts that it agrees with: in one of them
  pace_is : {core : CoreHeld W} (M : History W) → Agrees work core M → (s : ℕ)
      → (let a = account (world_after work M).accounts s in pace_at core s (face_of work a) ≡ pace_of work a)
  pace_is {core} M agrees s = elim (cases_Bool (is_running core s)) [
    | inl t ↦ rw (t, agrees.world.runs s, t, agrees.world.latest s t) refl
    | inr f ↦ rw (f, agrees.world.runs s, f) refl
  ]

  -- in all from number k on
  paces_are : (core : CoreHeld W) (accounts : List (Account W)) (k : ℕ)
      → ((i : ℕ) → pace_at core (i + k) (face_of work (account accounts i)) ≡ pace_of work (account accounts i))
      → paces_from core k (map (face_of work) accounts) ≡ map (pace_of work) accounts
  paces_are core [] k each = refl
  paces_are core (a ∷ accounts) k each =
      let z : 0 + k ≡ k = omega arith in
      let first : pace_at core k (face_of work a) ≡ pace_of work a = rw z at (each 0) in
      let rest = paces_are core accounts (k + 1) (λ i. let e : i + (k + 1) ≡ suc i + k = omega arith in rw e (each (suc i))) in
      rw (first, rest) refl

  paces_agree : {core : CoreHeld W} (M : History W) → Agrees work core M → paces_from core 0 core.faces ≡ map (pace_of work) (world_after work M).accounts
  paces_agree {core} M agrees = ap (λ (fs : List Face). paces_from core 0 fs) agrees.world.shown
      ∙ paces_are core (world_after work M).accounts 0 (λ i. let e : i + 0 ≡ i = omega arith in rw e (pace_is M agrees i))

  -- so what a paced core agrees with is paced
  pub agreed_paced : {core : CoreHeld W} (M : History W) → Agrees work core M → IsCorePaced core → IsWorldPaced work (world_after work M)
  agreed_paced {core} M agrees on = subst (λ ps. IsPaced (world_after work M).now ps) (paces_agree M agrees)
      (subst (λ n. IsPaced n (paces_from core 0 core.faces)) agrees.world.clock on)

  pub held_paced : {core : CoreHeld W} (M : History W) → Agrees work core M → IsWorldPaced work (world_after work M) → IsCorePaced core
  held_paced {core} M agrees on = subst (λ n. IsPaced n (paces_from core 0 core.faces)) (sym agrees.world.clock)
      (subst (λ ps. IsPaced (world_after work M).now ps) (sym (paces_agree M agrees)) on)

  -- what is so of a core exactly if it is so of the world that it agrees with
  pub record IsCarried (Held : CoreHeld W → Type 0) (On : World W → Type 0) : Type 0 where
    pub agreed : (core : CoreHeld W) (M : History W) → Agrees work core M → Held core → On (world_after work M)
    pub held : (core : CoreHeld W) (M : History W) → Agrees work core M → On (world_after work M) → Held core
    pub stable : (core : CoreHeld W) → (¬ ¬ Held core) → Held core

  -- so is that it is on time
  pub on_time_carried : IsCarried IsCoreOnTime (IsWorldOnTime work)
  on_time_carried = record {
    agreed = λ core M. agreed_on_time M;
    held = λ core M. held_on_time M;
    stable = λ core. on_time_stable core.clock core.faces;
  }

  -- and that it is paced
  pub paced_carried : IsCarried IsCorePaced (IsWorldPaced work)
  paced_carried = record {
    agreed = λ core M. agreed_paced M;
    held = λ core M. held_paced M;
    stable = λ core. paced_stable core.clock (paces_from core 0 core.faces);
  }

  module _ {Held : CoreHeld W → Type 0} {On : World W → Type 0} (carried : IsCarried Held On) (May : History W → Step W → Type 0) where
    -- if each of some steps keeps it, each of them leaves it so, from such a core on
    pub all_kept_on : (a : CoreHeld W) (xs : List (Step W)) → AllAllowed work (Keeps work On May) a xs → AllAllowed work May a xs → Held a
        → AllAllowed work (λ N x. On (world_after work (N ⊕ x))) a xs
    all_kept_on a xs keep may = λ on M agrees. each_kept work On May M xs (keep M agrees) (may M agrees) (carried.agreed a M agrees on)

    -- and so is the core that they lead to
    pub kept_on : (a b : CoreHeld W) (xs : List (Step W)) → HasHistory work a → Follows work a b xs → AllAllowed work (Keeps work On May) a xs
        → AllAllowed work May a xs → Held a → Held b
    kept_on a b xs history follows keep may on = carried.stable b (λ no. history (λ M agrees.
        no (carried.held b (M ⊕⊕ xs) (follows M agrees) (last_kept work On May M xs (keep M agrees) (may M agrees) (carried.agreed a M agrees on)))))

    -- of one step
    pub step_kept : (a b : CoreHeld W) (x : Step W) → HasHistory work a → Follows work a b (x ∷ [])
        → ((M : History W) → Agrees work a M → Keeps work On May M x) → ((M : History W) → Agrees work a M → May M x) → Held a → Held b
    step_kept a b x history follows keep may = kept_on a b (x ∷ []) history follows (λ M agrees. (keep M agrees, tt)) (λ M agrees. (may M agrees, tt))

  -- from a core on time on
  pub all_on_time : (a : CoreHeld W) (xs : List (Step W)) → AllAllowed work (KeepsTime work) a xs → AllAllowed work (IsQuietAfter work) a xs
      → AllOnTime work a xs
  all_on_time = all_kept_on on_time_carried (IsQuietAfter work)

  -- and from a paced one
  pub all_paced : (a : CoreHeld W) (xs : List (Step W)) → AllAllowed work (KeepsPace work) a xs → AllAllowed work (IsQuietAdvanceAfter work) a xs
      → AllPaced work a xs
  all_paced = all_kept_on paced_carried (IsQuietAdvanceAfter work)
