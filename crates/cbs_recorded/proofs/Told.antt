-- The steps that a whole tape has, and what they lead to.
use Rattle.std.proofs.Common.{◌≡◌, ℕ, zero, suc, true, List, [], ◌∷◌, ◌++◌, length, take, drop, map, refl, sym, ap, ◌∙◌}
use Rattle.std.proofs.lemmas.List.{take_at, take-map}
use Rattle.cbs_job.specs.Work.{Meaning}
use Rattle.cbs_steps.specs.History.{World, History, ◌⊕◌, faces, world_after}
use Rattle.cbs_steps.specs.Continuations.{◌⊕⊕◌}
use Rattle.cbs_steps.specs.declared.step.Step.{Step}
use Rattle.cbs_core.specs.Agreement.{Agrees}
use Rattle.cbs_core.specs.Held.{CoreHeld}
use Rattle.cbs_units.specs.declared.count.CountJob.{CountJob}
use Rattle.cbs_units.specs.Counting.{counting, counted_step, counted_history, counted_world}
use Rattle.cbs_units.proofs.Accounts.{faces_same}
use Rattle.cbs_units.proofs.Worlds.{world_same}
use Rattle.cbs_tape.specs.Tapes.{Taped}
use Rattle.cbs_tape.proofs.Fronts.{has_all, adds_first}
use Rattle.cbs_recorded.specs.Records.{Records, ShowsTheSame, started, AsItWas, AsItBegan}

-- a list is its first elements and the others
both_parts : {X : Type 0} (n : ℕ) (xs : List X) → xs ≡ take n xs ++ drop n xs
both_parts zero xs = refl
both_parts (suc n) [] = refl
both_parts {X = X} (suc n) (x ∷ xs) = ap (λ (ys : List X). x ∷ ys) (both_parts n xs)

module _ {W : Type 0} (work : Meaning W) where
  -- more steps, each with its job as its units
  pub counted_more : (M : History W) (xs : List (Step W)) → counted_history work (M ⊕⊕ xs) ≡ counted_history work M ⊕⊕ map (counted_step work) xs
  counted_more M [] = refl
  counted_more M (x ∷ xs) = counted_more (M ⊕ x) xs

  -- a whole tape has the steps that the core made
  pub has_steps : (first last : CoreHeld W) (empty tape : Taped) → empty.steps ≡ [] → (records : Records work first last empty tape) → tape.whole ≡ true
      → tape.steps ≡ map (counted_step work) records.steps
  has_steps first last empty tape none records whole =
      has_all (map (counted_step work) records.steps) empty tape records.told whole ∙ ap (λ (xs : List (Step CountJob)). xs ++ map (counted_step work) records.steps) none

  -- two cores, of which the other one agrees with the same steps
  pub shows_after : (N : History W) (last : CoreHeld W) (K : History CountJob) (other : CoreHeld CountJob) → K ≡ counted_history work N
      → Agrees work last N → Agrees counting other K → ShowsTheSame other last
  shows_after N last K other same agrees replayed =
      let world : world_after counting K ≡ counted_world work (world_after work N) = ap (world_after counting) same ∙ world_same work N in
      record {
        clock = replayed.world.clock ∙ (ap (λ (w : World CountJob). w.now) world ∙ sym agrees.world.clock);
        faces = replayed.world.shown ∙ (ap (λ (w : World CountJob). faces counting w) world ∙ (faces_same work (world_after work N) ∙ sym agrees.world.shown));
      }

  pub as_it_was : AsItWas work
  as_it_was setup first last empty tape other agrees none records whole replayed =
      let steps = has_steps first last empty tape none records whole in
      let same : started setup ⊕⊕ tape.steps ≡ counted_history work (started setup ⊕⊕ records.steps) =
      ap (λ (xs : List (Step CountJob)). started setup ⊕⊕ xs) steps ∙ sym (counted_more (started setup) records.steps) in
      shows_after (started setup ⊕⊕ records.steps) last (started setup ⊕⊕ tape.steps) other same (records.follows (started setup) agrees) replayed

  -- a tape that lost a step has the first ones
  pub as_it_began : AsItBegan work
  as_it_began setup first last empty tape other none records replayed =
      let xs : List (Step W) = records.steps in
      let more = adds_first (map (counted_step work) xs) empty tape records.told in
      let n : ℕ = length more.kept in
      let steps : tape.steps ≡ map (counted_step work) (take n xs) =
      more.steps ∙ (ap (λ (ys : List (Step CountJob)). ys ++ more.kept) none
      ∙ (sym (take_at more.kept more.gone n refl) ∙ (ap (take n) (sym more.all) ∙ take-map (counted_step work) n xs))) in
      let same : started setup ⊕⊕ tape.steps ≡ counted_history work (started setup ⊕⊕ take n xs) =
      ap (λ (ys : List (Step CountJob)). started setup ⊕⊕ ys) steps ∙ sym (counted_more (started setup) (take n xs)) in
      let world : world_after counting (started setup ⊕⊕ tape.steps) ≡ counted_world work (world_after work (started setup ⊕⊕ take n xs)) =
      ap (world_after counting) same ∙ world_same work (started setup ⊕⊕ take n xs) in
      record {
        kept = take n xs;
        gone = drop n xs;
        all = both_parts n xs;
        clock = replayed.world.clock ∙ ap (λ (w : World CountJob). w.now) world;
        faces = replayed.world.shown ∙ (ap (λ (w : World CountJob). faces counting w) world ∙ faces_same work (world_after work (started setup ⊕⊕ take n xs)));
      }
