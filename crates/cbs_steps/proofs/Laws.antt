-- The laws of steps that the crates above may cite.
use Rattle.std.proofs.Common.{◌≡◌, ℕ, zero, suc, ◌+◌, ◌<◌, true, false, leb, ltb, List, [], ◌∷◌, length, ◌++◌, refl, sym, subst, arith, Option, Some, None}
use Rattle.std.specs.Prelude.{if◌then◌else◌}
use Rattle.std.specs.List.{AllByRecursion}
use Rattle.std.proofs.lemmas.Bool.Decides.{nat_tests}
use Rattle.cbs_job.specs.Work.{Meaning}
use Rattle.cbs_rate.specs.Rate.{Rate}
use Rattle.cbs_rules.specs.Rules.{clock_end}
use Rattle.cbs_rules.specs.declared.mode.Mode.{Mode}
use Rattle.cbs_steps.specs.Choice.{rank_at}
use Rattle.cbs_steps.specs.Faces.{Face, is_ready, ranks}
use Rattle.cbs_steps.specs.History.{World, History, ◌⊕◌, faces, chosen, tick, ticks, after_run, after_advance, let_go, next}
use Rattle.cbs_steps.specs.Quiet.{IsAtRest, IsQuiet, IsIdleSpan}
use Rattle.cbs_steps.specs.Setups.{terms_of}
use Rattle.cbs_steps.specs.Punctual.{IsPunctual}
use Rattle.cbs_steps.specs.Continuations.{◌⊕⊕◌, EachAllowed}
use Rattle.cbs_steps.specs.declared.step.Step.{Step}
use Rattle.cbs_steps.specs.declared.step.Step.TheVariants.{Run, Advance}
use Rattle.cbs_steps.proofs.Choices.{choice_is}
use Rattle.cbs_steps.proofs.Plans.{length-terms}
pub use Rattle.cbs_steps.proofs.Completions.{Completes-none, after-push, steps_complete}
pub use Rattle.cbs_steps.proofs.ClosedServers.{steps_close}
pub use Rattle.cbs_steps.proofs.StepLists.{all_yielded}
use Rattle.cbs_steps.proofs.Ticks.{ticks_none}

module _ {W : Type 0} (work : Meaning W) where
  -- if the choice sees no server ready, none is ready
  rest_from : (fs : List Face) → ((r : ℕ) → r < length (ranks fs) → (rank_at (ranks fs) r).ready ≡ false) → AllByRecursion (λ f. is_ready f ≡ false) fs
  rest_from [] h = tt
  rest_from (f ∷ fs) h = (h 0 (omega arith), rest_from fs (λ r lt. h (suc r) (omega arith)))

  -- if no server is chosen, none is ready
  none_ready : (w : World W) → None ≡ chosen work w → IsAtRest work w
  none_ready w e = rest_from (faces work w) (let h = choice_is (ranks (faces work w)) in rw (← e) at h)

  -- a run takes a tick if some server is ready and the clock is not at its end
  run_takes : (w : World W) (o : Option ℕ) → o ≡ chosen work w → ¬ IsAtRest work w → w.now < clock_end
      → w.now < (after_run w (if ltb w.now clock_end then o else None)).now
  run_takes w None e busy early = absurd (busy (none_ready w e))
  run_takes w (Some s) e busy early = let t : ltb w.now clock_end ≡ true = grind (arith, nat_tests) in rw t (omega arith)

  -- a run takes a tick if some server is ready
  pub run_later : (backlog : ℕ) (w : World W) → ¬ IsAtRest work w → w.now < clock_end → w.now < (next work backlog w Run).now
  run_later backlog w busy early = run_takes w (chosen work w) refl busy early

  -- n ticks move the clock on by n
  ticks-now : (n : ℕ) (w : World W) → (ticks n w).now ≡ w.now + n
  unfolding ticks
  ticks-now zero w = omega arith
  ticks-now (suc n) w = let h = ticks-now n (tick w) in omega (arith, h)

  -- if no server is ready now, none is for one tick
  quiet_one : (w : World W) → IsAtRest work w → IsQuiet work w 1
  quiet_one w rest zero lt = rw (ticks_none w) rest
  quiet_one w rest (suc m) lt = absurd (omega arith)

  -- an advance by the idle span takes a tick or more
  pub advance_later : (backlog : ℕ) (w : World W) (n : ℕ) → IsIdleSpan work w n → w.now < clock_end → w.now < (next work backlog w (Advance n)).now
  advance_later backlog w n span early =
      let some = span.greatest 1 (omega arith) (quiet_one w span.at_rest) in
      let within = span.within in
      let t : leb (w.now + n) clock_end ≡ true = grind (arith, nat_tests) in
      rw t (later n some)
    where
      later : (n : ℕ) → 0 < n → w.now < (after_advance w n).now
      later zero some = absurd (omega arith)
      later (suc n) some = let e = ticks-now (suc n) (let_go w) in omega arith

module _ {W : Type 0} where
  -- two lists of steps, one after the other
  pub after-append : (M : History W) (xs ys : List (Step W)) → M ⊕⊕ (xs ++ ys) ≡ (M ⊕⊕ xs) ⊕⊕ ys
  after-append M [] ys = refl
  after-append M (x ∷ xs) ys = after-append (M ⊕ x) xs ys

  -- two lists of allowed steps are one
  pub allowed-append : (P : History W → Step W → Type 0) (M : History W) (xs ys : List (Step W)) → EachAllowed P M xs → EachAllowed P (M ⊕⊕ xs) ys
      → EachAllowed P M (xs ++ ys)
  allowed-append P M [] ys p q = q
  allowed-append P M (x ∷ xs) ys p q = (p.0, allowed-append P (M ⊕ x) xs ys p.1 q)

  -- steps that one rule allows are allowed by a weaker one
  pub allowed-weaker : (P Q : History W → Step W → Type 0) (M : History W) (xs : List (Step W)) → ((N : History W) (x : Step W) → P N x → Q N x)
      → EachAllowed P M xs → EachAllowed Q M xs
  allowed-weaker P Q M [] w p = tt
  allowed-weaker P Q M (x ∷ xs) w p = (w M x p.0, allowed-weaker P Q (M ⊕ x) xs w p.1)

  -- steps leave what the executor was given
  pub setup_after : (M : History W) (xs : List (Step W)) → (M ⊕⊕ xs).setup ≡ M.setup
  setup_after M [] = refl
  setup_after M (x ∷ xs) = setup_after (M ⊕ x) xs

module _ {W : Type 0} (work : Meaning W) where
  -- what is punctual whatever its steps will be, is so after these
  pub punctual_after : (M : History W) → ((steps : List (Step W)) → IsPunctual work (record { setup = M.setup; steps = steps })) → (xs : List (Step W))
      → IsPunctual work (M ⊕⊕ xs)
  punctual_after M all xs = subst (λ s. IsPunctual work (record { setup = s; steps = (M ⊕⊕ xs).steps })) (sym (setup_after M xs)) (all (M ⊕⊕ xs).steps)

-- as many servers as reservations were given, with a mode for each
pub terms_count : (modes : List Mode) (rates : List Rate) → length modes ≡ length rates → length (terms_of modes rates) ≡ length rates
terms_count modes rates same = length-terms modes rates same
