-- The figures of all servers, one after another.
use Rattle.std.proofs.Common.{◌≡◌, ℕ, zero, suc, ◌<◌, List, [], ◌∷◌, ◌++◌, length, Some, arith, refl, sym, ap, ◌∙◌}
use Rattle.std.specs.Prelude.{get_or, slice_get}
use Rattle.std.proofs.lemmas.List.{get_or-map, length-map}
use Rattle.cbsrun_events.specs.declared.seen.Seen.{Seen}
use Rattle.cbsrun_figures.specs.Figures.{steps_of, AreFigures, AreAllFigures}
use Rattle.cbsrun_figures.specs.Tallies.{Kept, kept_at, kept_of, HasSeen, Reported, budgets}
use Rattle.cbsrun_figures.specs.declared.figures.Figures.{Figures}

-- these are the figures of the tally up to the tick `now`, for all steps that the tally may be of
abbrev Tells : ℕ → Kept → Figures → Type 0
Tells now k f = (own : List Seen) → k ≡ kept_of k.budget own → AreFigures k.budget now own f

-- the same for each tally and its figures
abbrev pub TellAll : ℕ → List Kept → List Figures → Type 0
TellAll now [] [] = Unit {0}
TellAll now (k ∷ ks) (f ∷ fs) = Tells now k f × TellAll now ks fs
TellAll now _ _ = ⊥

-- one tally more, and its figures
pub tell_more : (now : ℕ) (ks : List Kept) (fs : List Figures) (k : Kept) (f : Figures) → TellAll now ks fs → Tells now k f
    → TellAll now (ks ++ k ∷ []) (fs ++ f ∷ [])
tell_more now [] [] k f all one = (one, tt)
tell_more now (x ∷ ks) (y ∷ fs) k f all one = (all.0, tell_more now ks fs k f all.1 one)
tell_more now [] (y ∷ fs) k f all one = absurd all
tell_more now (x ∷ ks) [] k f all one = absurd all

-- as many figures as tallies
tell_count : (now : ℕ) (ks : List Kept) (fs : List Figures) → TellAll now ks fs → length fs ≡ length ks
tell_count now [] [] all = refl
tell_count now (x ∷ ks) (y ∷ fs) all = let h = tell_count now ks fs all.1 in omega arith
tell_count now [] (y ∷ fs) all = absurd all
tell_count now (x ∷ ks) [] all = absurd all

-- the figures at a place are those of the tally at that place
tell_at : (now : ℕ) (ks : List Kept) (fs : List Figures) (s : ℕ) (f : Figures) → TellAll now ks fs → slice_get fs s ≡ Some f
    → (s < length ks) × Tells now (kept_at ks s) f
tell_at now [] [] s f all e = absurd cc
tell_at now (x ∷ ks) (y ∷ fs) zero f all e = let same : y ≡ f = cc in (omega arith, rw (← same) all.0)
tell_at now (x ∷ ks) (y ∷ fs) (suc s) f all e = let h = tell_at now ks fs s f all.1 e in (let lt = h.0 in omega arith, h.1)
tell_at now [] (y ∷ fs) s f all e = absurd all
tell_at now (x ∷ ks) [] s f all e = absurd all

-- all figures are those of what was seen
pub all_figures : (first now : Reported) (seen : List Seen) (until : ℕ) (fs : List Figures) → TellAll until now.kept fs → HasSeen first now seen
    → AreAllFigures (budgets first) until seen fs
all_figures first now seen until fs all was = record {
  count = tell_count until now.kept fs all ∙ (sym (length-map now.kept (λ k. k.budget)) ∙ ap length was.budgets);
  each = λ s f e.
      let h = tell_at until now.kept fs s f all e in
      let same : get_or (budgets first) s 0 ≡ (kept_at now.kept s).budget =
      ap (λ bs. get_or bs s 0) (sym was.budgets) ∙ get_or-map (λ (k : Kept). k.budget) now.kept s (kept_of 0 []) 0 h.0 in
      rw same (h.1 (steps_of s seen) (was.kept s h.0));
}
