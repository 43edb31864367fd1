-- A unit of the first job of a queue, done in place.
use Rattle.std.proofs.Common.{◌≡◌, ℕ, zero, suc, ◌<◌, false, eqb, List, [], ◌∷◌, length, get_or, drop, refl, ap, ◌∙◌, inl, inr, arith}
use Rattle.std.proofs.lemmas.Bool.{cases_lt, cases_Bool}
use Rattle.std.specs.List.{AllByRecursion}
use Rattle.std.proofs.lemmas.Bool.Decides.{nat_tests}
use Rattle.std.proofs.lemmas.List.{get_or_past}
use Rattle.cbs_job.specs.Work.{Meaning}
use Rattle.cbs_lists.specs.Lists.{changed_at}
use Rattle.cbs_queues.specs.Queues.{list_at, jobs_run}
use Rattle.cbs_lists.proofs.Lists.{changed_here}

-- two changes that come to the same for the element at i are the same change
changed_same : {X : Type 0} (f g : X → X) (xs : List X) (i : ℕ) (d : X) → f (get_or xs i d) ≡ g (get_or xs i d)
    → changed_at f xs i ≡ changed_at g xs i
changed_same f g [] i d e = refl
changed_same f g (x ∷ xs) zero d e = ap (λ y. y ∷ xs) e
changed_same f g (x ∷ xs) (suc i) d e = ap (λ ys. x ∷ ys) (changed_same f g xs i d e)

-- two changes at one place are one
changed_twice : {X : Type 0} (f g : X → X) (xs : List X) (i : ℕ)
    → changed_at g (changed_at f xs i) i ≡ changed_at (λ x. g (f x)) xs i
changed_twice f g [] i = refl
changed_twice f g (x ∷ xs) zero = refl
changed_twice f g (x ∷ xs) (suc i) = ap (λ ys. x ∷ ys) (changed_twice f g xs i)

-- a queue whose first job was changed in place has a job still
pub job_there : {W : Type 0} (lists : List (List W)) (s : ℕ) (now : W) → 0 < length (list_at lists s)
    → 0 < length (list_at (changed_at (λ jobs. now ∷ drop 1 jobs) lists s) s)
job_there lists s now some = elim (cases_lt s (length lists)) [
  | inl lt ↦ let here = changed_here (λ jobs. now ∷ drop 1 jobs) lists s [] lt in omega (arith, ap length here)
  | inr ge ↦
      let past : list_at lists s ≡ [] = get_or_past lists s [] ge in
      let none : length (list_at lists s) ≡ 0 = ap length past in
      absurd (omega arith)
]

module _ {W : Type 0} (work : Meaning W) where
  -- after a unit of the first job, each job held has a unit left, as each had before
  pub unfinished_run : (jobs : List W) → AllByRecursion (λ w. 0 < work.left w) jobs → AllByRecursion (λ w. 0 < work.left w) (jobs_run work jobs)
  unfinished_run [] all = all
  unfinished_run (job ∷ jobs) all = elim (cases_Bool (eqb (work.left (work.after job)) 0))
      [ inl e ↦ rw e all.1 | inr e ↦ rw e (grind (arith, nat_tests), all.1) ]

module _ {W : Type 0} (work : Meaning W) (lists : List (List W)) (s : ℕ) (job now : W) (rest : List W)
    (first : list_at lists s ≡ job ∷ rest) where
  -- if a unit is left, the first job stands there as it is after its unit
  pub job_stays : now ≡ work.after job → 0 < work.left now
      → changed_at (λ jobs. now ∷ drop 1 jobs) lists s ≡ changed_at (jobs_run work) lists s
  job_stays e some =
      let more : eqb (work.left (work.after job)) 0 ≡ false = rw (← e) (grind (arith, nat_tests)) in
      changed_same (λ jobs. now ∷ drop 1 jobs) (jobs_run work) lists s [] (rw (first, more, e) refl)

  -- if none is left, it is taken out
  pub job_leaves : now ≡ work.after job → work.left now ≡ 0
      → changed_at (drop 1) (changed_at (λ jobs. now ∷ drop 1 jobs) lists s) s ≡ changed_at (jobs_run work) lists s
  job_leaves e none =
      let last : work.left (work.after job) ≡ 0 = rw (← e) none in
      changed_twice (λ jobs. now ∷ drop 1 jobs) (drop 1) lists s
      ∙ changed_same (λ jobs. drop 1 jobs) (jobs_run work) lists s [] (rw (first, last) refl)
