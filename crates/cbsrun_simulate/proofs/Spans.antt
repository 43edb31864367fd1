-- The idle span that a core returns is the one of the definition.
use Rattle.std.proofs.Common.{◌≡◌, ℕ, List, arith, refl, ap, subst, length, inl, inr, Option, Some, None}
use Rattle.std.specs.Prelude.{MatchOption}
use Rattle.std.specs.Option.{is_some}
use Rattle.std.proofs.lemmas.Bool.{cases_Bool}
use Rattle.cbs_job.specs.Work.{Meaning}
use Rattle.cbs_steps.specs.Choice.{IsChoice, chosen_among}
use Rattle.cbs_steps.specs.Faces.{Face, ranks}
use Rattle.cbs_steps.specs.History.{World, faces, chosen}
use Rattle.cbs_steps.specs.Quiet.{IsAtRest, IsIdleSpan}
use Rattle.cbs_steps.specs.Waiting.{NoneReady, span_of}
use Rattle.cbs_steps.proofs.Choices.{choice_is}
use Rattle.cbs_steps.proofs.IdleSpans.{somebody, nobody, span_is}
use Rattle.cbsrun_simulate.specs.Moves.{idle_span}
use Rattle.cbsrun_simulate.proofs.Owing.{length_ranks}

-- the choice among the servers, by their faces
choice_here : (fs : List Face) → IsChoice (ranks fs) (length fs) (chosen_among (ranks fs))
choice_here fs = subst (λ n. IsChoice (ranks fs) n (chosen_among (ranks fs))) (length_ranks fs) (choice_is (ranks fs))

-- the span of the definition, if nobody is ready
spans : (now : ℕ) (fs : List Face) → MatchOption (idle_span now fs) (¬ NoneReady fs) (λ n. NoneReady fs × (n ≡ span_of now fs))
spans now fs = elim (cases_Bool (is_some (chosen_among (ranks fs)))) [
  | inl t ↦ rw t (somebody fs (chosen_among (ranks fs)) (choice_here fs) t)
  | inr f ↦ rw f (nobody fs (chosen_among (ranks fs)) (choice_here fs) f, refl)
]

module _ {W : Type 0} (work : Meaning W) (w : World W) where
  -- that span is the idle span
  pub span_idle : MatchOption (idle_span w.now (faces work w)) (¬ IsAtRest work w) (IsIdleSpan work w)
  span_idle = span_is work w (idle_span w.now (faces work w)) (spans w.now (faces work w))

  -- there is only one idle span
  one_span : (o p : Option ℕ) → MatchOption o (¬ IsAtRest work w) (IsIdleSpan work w) → MatchOption p (¬ IsAtRest work w) (IsIdleSpan work w) → o ≡ p
  one_span None None h k = refl
  one_span None (Some n) h k = absurd (h k.at_rest)
  one_span (Some n) None h k = absurd (k h.at_rest)
  one_span (Some n) (Some m) h k =
      let a = h.greatest m k.within k.quiet in
      let b = k.greatest n h.within h.quiet in
      let e : n ≡ m = omega arith in
      ap (λ n. Some n) e

  -- the span that a core returns is the one of the definition
  pub span_here : (o : Option ℕ) → MatchOption o (¬ IsAtRest work w) (IsIdleSpan work w) → o ≡ idle_span w.now (faces work w)
  span_here o h = one_span o (idle_span w.now (faces work w)) h span_idle

  -- there is no span if a server is chosen
  pub span_busy : (s : ℕ) → Some s ≡ chosen work w → None ≡ idle_span w.now (faces work w)
  span_busy s e = rw (← e) refl
