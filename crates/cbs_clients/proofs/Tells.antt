-- The completions that a sink is given, one turn after another.
use Rattle.std.proofs.Common.{◌≡◌, ℕ, zero, suc, ◌+◌, eqb, List, [], ◌∷◌, ◌++◌, length, map, refl, ap, sym, ◌∙◌, arith, inl, inr, length-append}
use Rattle.std.specs.List.{range_with_len}
use Rattle.std.proofs.lemmas.Bool.{cases_eq}
use Rattle.std.proofs.lemmas.List.{append-nil, append_assoc, map-append, length-map}
use Rattle.std.proofs.lemmas.List.Elements.{filter-append}
use Rattle.cbs_job.specs.declared.completion.Completion.{Completion}
use Rattle.cbs_job.specs.declared.work.Work.{Ghosts}
use Rattle.cbs_steps.specs.declared.reply.Ran.{Ran}
use Rattle.cbs_steps.specs.declared.reply.Ran.TheVariants as ran
use Rattle.cbs_clients.specs.declared.house.House.{House}
use Rattle.cbs_clients.specs.Houses.{results_of, handed_of, result_count, Collects}
use Rattle.cbs_clients.specs.Turns.{IsNumbered}
use Rattle.cbs_clients.specs.Sinks.{completions_for, HearsEach, HearsRun, Tells}
use Rattle.cbs_clients.proofs.MadeSteps.{eqb_same, eqb_other}

-- numbers in a row, and those after them
range_both : (k m n : ℕ) → range_with_len k (m + n) ≡ range_with_len k m ++ range_with_len (k + m) n
range_both k zero n = let e : zero + n ≡ n = omega arith in let f : k + 0 ≡ k = omega arith in rw (e, f) refl
range_both k (suc m) n =
    let e : suc m + n ≡ suc (m + n) = omega arith in
    let f : (k + 1) + m ≡ k + suc m = omega arith in
    rw e (ap (λ ns. k ∷ ns) (range_both (k + 1) m n ∙ ap (λ j. range_with_len (k + 1) m ++ range_with_len j n) f))

module _ {S : Type 0} (hears : S → Completion → S → Type 0) where
  -- a sink was given some completions, and then more
  hears_both : (a b c : S) (xs ys : List Completion) → HearsEach hears a xs b → HearsEach hears b ys c → HearsEach hears a (xs ++ ys) c
  hears_both a b c [] ys h k = rw h at k
  hears_both a b c (x ∷ xs) ys h k = (h.0, h.1, hears_both h.0 b c xs ys h.2 k)

module _ {W A S : Type 0} {g : Ghosts W} (hears : S → Completion → S → Type 0) where
  -- no job is finished, and no completion is given
  pub tells_none : (a b : House W A g) (u : S) → ((s : ℕ) → results_of b s ≡ results_of a s) → Tells hears a b u u
  tells_none a b u same = record { completions = []; heard = refl; results = λ s. same s ∙ sym (append-nil (results_of a s)); numbers = λ s. refl }

  -- one job is finished, and the sink is given its completion
  tells_one : (a b : House W A g) (u v : S) (c : Completion) → Collects (ran.Done c) a b → IsNumbered (ran.Done c) a → hears u c v → Tells hears a b u v
  tells_one a b u v c collects number heard = record {
    completions = c ∷ [];
    heard = (v, heard, refl);
    results = λ s. elim (cases_eq s c.server) [
      | inl e ↦ rw (e, eqb_same c.server) collects.0
      | inr ne ↦ rw (eqb_other c.server s ne) (collects.1 s ne ∙ sym (append-nil (results_of a s)))
    ];
    numbers = λ s. elim (cases_eq s c.server) [
      | inl e ↦ rw (e, eqb_same c.server, number) refl
      | inr ne ↦ rw (eqb_other c.server s ne) refl
    ];
  }

  -- the sink is given what ran
  pub tells_run : (r : Ran) (a b : House W A g) (u v : S) → Collects r a b → IsNumbered r a → HearsRun hears r u v → Tells hears a b u v
  tells_run ran.Idle a b u v k number heard = rw heard (tells_none a b u k)
  tells_run ran.ClockEnd a b u v k number heard = rw heard (tells_none a b u k)
  tells_run (ran.Unit s q) a b u v k number heard = rw heard (tells_none a b u k)
  tells_run (ran.Done c) a b u v k number heard = tells_one a b u v c k number heard

  -- what a sink is given from one house to another, and then on to a third
  pub tells_both : (a b c : House W A g) (u v w : S) → ((s : ℕ) → handed_of b s ≡ handed_of a s) → Tells hears a b u v → Tells hears b c v w
      → Tells hears a c u w
  tells_both a b c u v w handed h k = record {
    completions = h.completions ++ k.completions;
    heard = hears_both hears u v w h.completions k.completions h.heard k.heard;
    results = λ s.
        let xs = completions_for s h.completions in
        let ys = completions_for s k.completions in
        k.results s ∙ (ap (λ rs. rs ++ map (λ (d : Completion). d.result) ys) (h.results s)
        ∙ (append_assoc (results_of a s) (map (λ (d : Completion). d.result) xs) (map (λ (d : Completion). d.result) ys)
        ∙ ap (λ rs. results_of a s ++ rs) (sym (map-append (λ (d : Completion). d.result) xs ys)
        ∙ ap (map (λ (d : Completion). d.result)) (sym (filter-append (λ (d : Completion). eqb d.server s) h.completions k.completions)))));
    numbers = λ s.
        let xs = completions_for s h.completions in
        let ys = completions_for s k.completions in
        let n = result_count a s in
        let kept : length (results_of b s) ≡ length (results_of a s) + length xs =
        ap length (h.results s) ∙ (length-append (results_of a s) (map (λ (d : Completion). d.result) xs)
        ∙ ap (λ j. length (results_of a s) + j) (length-map xs (λ (d : Completion). d.result))) in
        let out = handed s in
        let m : result_count b s ≡ n + length xs = omega (arith, kept, out) in
        let both : completions_for s (h.completions ++ k.completions) ≡ xs ++ ys =
        filter-append (λ (d : Completion). eqb d.server s) h.completions k.completions in
        ap (map (λ (d : Completion). d.seq)) both ∙ (map-append (λ (d : Completion). d.seq) xs ys
        ∙ (ap (λ rs. rs ++ map (λ (d : Completion). d.seq) ys) (h.numbers s)
        ∙ (ap (λ rs. range_with_len n (length xs) ++ rs) (k.numbers s ∙ ap (λ j. range_with_len j (length ys)) m)
        ∙ (sym (range_both n (length xs) (length ys)) ∙ ap (range_with_len n) (sym (length-append xs ys) ∙ ap length (sym both))))));
  }
