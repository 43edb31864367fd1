-- Steps that follow a history, and keep what is on time or paced so.
use Rattle.std.proofs.Common.{ℕ, ◌+◌, ◌-◌, ◌*◌, List, [], ◌∷◌, map, arith, inl, inr}
use Rattle.std.specs.List.{sum_by, AllByRecursion}
use Rattle.std.proofs.lemmas.Bool.{cases_lt, cases_Bool}
use Rattle.cbs_job.specs.Work.{Meaning}
use Rattle.cbs_rate.specs.Plan.{all_periods}
use Rattle.cbs_steps.specs.Continuations.{◌⊕⊕◌, EachAllowed}
use Rattle.cbs_steps.specs.Faces.{Face, reservations}
use Rattle.cbs_steps.specs.History.{World, Setup, History, ◌⊕◌, world_after}
use Rattle.cbs_steps.specs.OnTime.{demand, IsAhead, IsOnTime}
use Rattle.cbs_steps.specs.Paced.{Pace, IsPaced, asked, held_up}
use Rattle.cbs_steps.specs.Quiet.{EachPlaced}
use Rattle.cbs_steps.specs.Replies.{is_lack, grown, grown_by}
use Rattle.cbs_steps.specs.declared.reply.Reply.{Reply}
use Rattle.cbs_steps.specs.declared.step.Step.{Step}

-- that a throttled server still waits is a fact that it suffices not to refute
ahead_stable : (now : ℕ) (f : Face) → (¬ ¬ IsAhead now f) → IsAhead now f
ahead_stable now f h = λ marked. elim (cases_lt now f.state.deadline)
    [ inl lt ↦ lt | inr ge ↦ absurd (h (λ ahead. let l = ahead marked in absurd (omega arith))) ]

-- what is so of each element if it is not refuted is so of a list
each_stable : {X : Type 0} (Q : X → Type 0) → ((x : X) → (¬ ¬ Q x) → Q x) → (xs : List X) → (¬ ¬ AllByRecursion Q xs) → AllByRecursion Q xs
each_stable Q q [] h = tt
each_stable Q q (x ∷ xs) h = (q x (λ no. h (λ all. no all.0)), each_stable Q q xs (λ no. h (λ all. no all.1)))

-- so is that all are paced
pub paced_stable : (now : ℕ) (ps : List Pace) → (¬ ¬ IsPaced now ps) → IsPaced now ps
paced_stable now ps h =
    let parts = all_periods (reservations (map (λ p. p.face) ps)) in
    record {
      within = λ x some. elim (cases_lt ((x + sum_by (held_up x) ps) * parts) (sum_by (asked parts now x) ps + now * parts)) [
        | inl over ↦ absurd (h (λ on. let l = on.within x some in omega arith))
        | inr within ↦ within
      ];
      ahead = each_stable (λ p. IsAhead now p.face) (λ p. ahead_stable now p.face) ps (λ no. h (λ on. no on.ahead));
    }

-- and that all are on time
pub on_time_stable : (now : ℕ) (fs : List Face) → (¬ ¬ IsOnTime now fs) → IsOnTime now fs
on_time_stable now fs h =
    let parts = all_periods (reservations fs) in
    record {
      within = λ x early. elim (cases_lt ((x - now) * parts) (sum_by (demand parts now x) fs)) [
        | inl over ↦ absurd (h (λ on. let l = on.within x early in omega arith))
        | inr within ↦ within
      ];
      ahead = each_stable (IsAhead now) (ahead_stable now) fs (λ no. h (λ on. no on.ahead));
    }

module _ {W : Type 0} (work : Meaning W) (On : World W → Type 0) (May : History W → Step W → Type 0) where
  -- if a world is so, and the step x is one of those, the world stays so
  abbrev pub Keeps : History W → Step W → Type 0
  Keeps M x = May M x → On (world_after work M) → On (world_after work (M ⊕ x))

  -- each of such steps leaves a world that is so
  pub each_kept : (M : History W) (xs : List (Step W)) → EachAllowed Keeps M xs → EachAllowed May M xs → On (world_after work M)
      → EachAllowed (λ N x. On (world_after work (N ⊕ x))) M xs
  each_kept M [] keep may on = tt
  each_kept M (x ∷ xs) keep may on = let next = keep.0 may.0 on in (next, each_kept (M ⊕ x) xs keep.1 may.1 next)

  pub last_kept : (M : History W) (xs : List (Step W)) → EachAllowed Keeps M xs → EachAllowed May M xs → On (world_after work M) → On (world_after work (M ⊕⊕ xs))
  last_kept M [] keep may on = on
  last_kept M (x ∷ xs) keep may on = last_kept (M ⊕ x) xs keep.1 may.1 (keep.0 may.0 on)

  -- what each step keeps of the worlds that an executor makes of what it was given
  module _ (Ok : Setup → Type 0) (keep : (M : History W) (x : Step W) → Ok M.setup → Keeps M x) where
    -- a step keeps it also if memory refused it
    one_grown : (M : History W) (x : Step W) (r : Reply W) → Ok M.setup → May M x → On (world_after work M) → Ok (grown M x r).setup × On (world_after work (grown M x r))
    one_grown M x r ok may on = elim (cases_Bool (is_lack r)) [ inl t ↦ rw t (ok, on) | inr f ↦ rw f (ok, keep M x ok may on) ]

    -- so does each list of such steps
    pub all_grown : (M : History W) (xs : List (Step W)) (rs : List (Reply W)) → Ok M.setup → EachPlaced May M xs rs → On (world_after work M)
        → On (world_after work (grown_by M xs rs))
    all_grown M [] rs ok may on = on
    all_grown M (x ∷ xs) [] ok may on = on
    all_grown M (x ∷ xs) (r ∷ rs) ok may on = let one = one_grown M x r ok may.0 on in all_grown (grown M x r) xs rs one.0 may.1 one.1

    -- and with no replies
    pub all_kept : (M : History W) (xs : List (Step W)) → Ok M.setup → EachAllowed May M xs → On (world_after work M)
        → Ok (M ⊕⊕ xs).setup × On (world_after work (M ⊕⊕ xs))
    all_kept M [] ok may on = (ok, on)
    all_kept M (x ∷ xs) ok may on = all_kept (M ⊕ x) xs ok may.1 (keep M x ok may.0 on)
