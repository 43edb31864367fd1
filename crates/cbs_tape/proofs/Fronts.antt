-- What a tape has that was told many steps.
use Rattle.std.proofs.Common.{◌≡◌, Bool, true, false, List, [], ◌∷◌, ◌++◌, refl, sym, ap, ◌∙◌, append_assoc}
use Rattle.std.proofs.lemmas.List.{append-nil}
use Rattle.cbs_steps.specs.declared.step.Step.{Step}
use Rattle.cbs_units.specs.declared.count.CountJob.{CountJob}
use Rattle.cbs_tape.specs.Tapes.{Taped, Hears, HearsEach, AddsFirst}

-- a tape that lost a step stays so
stays_by : (x : Step CountJob) (old new : Taped) (b : Bool) → new.whole ≡ b → Hears x old new → old.whole ≡ false → b ≡ false
stays_by x old new true is h lost = sym (h.told is).0 ∙ lost
stays_by x old new false is h lost = refl

stays : (x : Step CountJob) (old new : Taped) → Hears x old new → old.whole ≡ false → new.whole ≡ false
stays x old new h lost = stays_by x old new new.whole refl h lost

-- and has no step more
pub lost_all : (xs : List (Step CountJob)) (old new : Taped) → HearsEach xs old new → old.whole ≡ false → new.steps ≡ old.steps
lost_all [] old new h lost = ap (λ (t : Taped). t.steps) (sym h)
lost_all (x ∷ xs) old new h lost =
    let gone = stays x old h.0 h.1 lost in
    lost_all xs h.0 new h.2 gone ∙ h.1.lost gone

-- a tape that is whole in the end was whole
was_by : (xs : List (Step CountJob)) (old new : Taped) (b : Bool) → old.whole ≡ b → (old.whole ≡ false → new.whole ≡ false) → new.whole ≡ true → b ≡ true
was_by xs old new true is h whole = refl
was_by xs old new false is h whole = sym (h is) ∙ whole

lost_each : (xs : List (Step CountJob)) (old new : Taped) → HearsEach xs old new → old.whole ≡ false → new.whole ≡ false
lost_each [] old new h lost = ap (λ (t : Taped). t.whole) (sym h) ∙ lost
lost_each (x ∷ xs) old new h lost = lost_each xs h.0 new h.2 (stays x old h.0 h.1 lost)

was : (xs : List (Step CountJob)) (old new : Taped) → HearsEach xs old new → new.whole ≡ true → old.whole ≡ true
was xs old new h whole = was_by xs old new old.whole refl (lost_each xs old new h) whole

-- it has all steps
pub has_all : (xs : List (Step CountJob)) (old new : Taped) → HearsEach xs old new → new.whole ≡ true → new.steps ≡ old.steps ++ xs
has_all [] old new h whole = ap (λ (t : Taped). t.steps) (sym h) ∙ sym (append-nil old.steps)
has_all (x ∷ xs) old new h whole =
    let one = (h.1.told (was xs h.0 new h.2 whole)).1 in
    has_all xs h.0 new h.2 whole ∙ (ap (λ (ys : List (Step CountJob)). ys ++ xs) one ∙ append_assoc old.steps (x ∷ []) xs)

-- anyway it has the first ones
first_by : (x : Step CountJob) (xs : List (Step CountJob)) (old mid new : Taped) (b : Bool) → mid.whole ≡ b → Hears x old mid → HearsEach xs mid new
    → AddsFirst xs mid new → AddsFirst (x ∷ xs) old new
first_by x xs old mid new true is h later more = record {
  kept = x ∷ more.kept;
  gone = more.gone;
  all = ap (λ (ys : List (Step CountJob)). x ∷ ys) more.all;
  steps = more.steps ∙ (ap (λ (ys : List (Step CountJob)). ys ++ more.kept) (h.told is).1 ∙ append_assoc old.steps (x ∷ []) more.kept);
}
first_by x xs old mid new false is h later more = record {
  kept = [];
  gone = x ∷ xs;
  all = refl;
  steps = lost_all xs mid new later is ∙ (h.lost is ∙ sym (append-nil old.steps));
}

pub adds_first : (xs : List (Step CountJob)) (old new : Taped) → HearsEach xs old new → AddsFirst xs old new
adds_first [] old new h = record { kept = []; gone = []; all = refl; steps = ap (λ (t : Taped). t.steps) (sym h) ∙ sym (append-nil old.steps) }
adds_first (x ∷ xs) old new h = first_by x xs old h.0 new h.0.whole refl h.1 h.2 (adds_first xs h.0 new h.2)
