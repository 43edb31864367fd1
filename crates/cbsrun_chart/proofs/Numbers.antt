-- Jobs whose numbers go on by one.
use Rattle.std.proofs.Common.{◌≡◌, ℕ, zero, suc, ◌+◌, ◌-◌, ◌<◌, ◌≤◌, Bool, true, false, not, List, [], ◌∷◌, length, take, arith, refl, subst, sym, Option, Some, None}
use Rattle.std.specs.Prelude.{eqb, find, get_or, ltb, slice_get}
use Rattle.std.specs.Borrow.{Bor}
use Rattle.std.specs.Option.{IfSome, SomeIff, is_some, option_copied, option_eq}
use Rattle.std.proofs.lemmas.Option.{slice_get_past, slice_get_read}
use Rattle.cbsrun_chart.specs.Jobs.{are_in_turn, are_numbered_from, job_numbered}
use Rattle.cbsrun_chart.specs.declared.jobs.ChartJob.{ChartJob}

-- the job at a place has the number of that place
pub numbered_at : (j : ℕ) (jobs : List ChartJob) (i : ℕ) (d : ChartJob) → i < length jobs → are_numbered_from j jobs ≡ true
    → (get_or jobs i d).number ≡ j + i
numbered_at j [] i d lt is = absurd (omega arith)
numbered_at j (job ∷ jobs) zero d lt is = grind arith
numbered_at j (job ∷ jobs) (suc i) d lt is =
    let rest : are_numbered_from (j + 1) jobs ≡ true = grind arith in
    let at = numbered_at (j + 1) jobs i d (omega arith) rest in
    omega (arith, at)

-- one job more
pub numbered_more : (j : ℕ) (jobs : List ChartJob) (i : ℕ) (d : ChartJob) → i < length jobs → are_numbered_from j (take i jobs) ≡ true
    → (get_or jobs i d).number ≡ j + i → are_numbered_from j (take (i + 1) jobs) ≡ true
numbered_more j [] i d lt is at = absurd (omega arith)
numbered_more j (job ∷ jobs) zero d lt is at = grind arith
numbered_more j (job ∷ jobs) (suc i) d lt is at =
    let rest : are_numbered_from (j + 1) (take i jobs) ≡ true = grind arith in
    let more = numbered_more (j + 1) jobs i d (omega arith) rest (omega (arith, at)) in
    let step : suc i + 1 ≡ suc (i + 1) = omega arith in
    rw step (grind (arith, more))

-- the difference of two numbers, as it is tested
pub is_apart : (r : Option ℕ) (n first i : ℕ) → SomeIff r (first ≤ n) (n - first) → not (option_eq eqb r (Some i)) ≡ true → n ≡ first + i → ⊥
is_apart None n first i h e is = h (omega (arith, is))
is_apart (Some x) n first i h e is = let same : x ≡ i = omega (arith, h.1, is) in grind (arith, e, same)

pub is_next : (r : Option ℕ) (n first i : ℕ) → SomeIff r (first ≤ n) (n - first) → not (option_eq eqb r (Some i)) ≡ false → n ≡ first + i
is_next None n first i h e = absurd cc
is_next (Some x) n first i h e = let same : x ≡ i = grind (arith, e) in omega (arith, h.0, h.1, same)

-- a job whose number is not that of its place
pub not_in_turn : (jobs : List ChartJob) (first : ChartJob) (i : ℕ) (d : ChartJob) → Some first ≡ slice_get jobs 0 → i < length jobs
    → ((get_or jobs i d).number ≡ first.number + i → ⊥) → (turn : Bool) → turn ≡ are_in_turn jobs → false ≡ turn
not_in_turn [] first i d is lt differs turn e = absurd (omega arith)
not_in_turn (job ∷ jobs) first i d is lt differs false e = refl
not_in_turn (job ∷ jobs) first i d is lt differs true e =
    let same : first ≡ job = cc in
    let at = numbered_at job.number (job ∷ jobs) i d lt (sym e) in
    absurd (differs (rw same at))

-- all jobs, if the numbers of the first ones go on to the last one
pub all_in_turn : (jobs : List ChartJob) (first : ChartJob) → Some first ≡ slice_get jobs 0 → are_numbered_from first.number jobs ≡ true
    → are_in_turn jobs ≡ true
all_in_turn [] first is h = refl
all_in_turn (job ∷ jobs) first is h = let same : first ≡ job = cc in subst (λ (f : ChartJob). are_numbered_from f.number (job ∷ jobs) ≡ true) same h

-- no job has a number that is less than the first one
pub none_before : (j k : ℕ) (jobs : List ChartJob) → are_numbered_from j jobs ≡ true → k < j → job_numbered k jobs ≡ None
none_before j k [] is lt = refl
none_before j k (job ∷ jobs) is lt =
    let here : job.number ≡ j = grind arith in
    let rest : are_numbered_from (j + 1) jobs ≡ true = grind arith in
    let after = none_before (j + 1) k jobs rest (omega arith) in
    let other : eqb job.number k ≡ false = grind (arith, here, lt) in
    grind (arith, other, after)

-- the job with a number stands at its place
pub numbered_is : (j i : ℕ) (jobs : List ChartJob) → are_numbered_from j jobs ≡ true → job_numbered (j + i) jobs ≡ slice_get jobs i
numbered_is j i [] is = refl
numbered_is j zero (job ∷ jobs) is =
    let here : job.number ≡ j + 0 = grind arith in
    let same : eqb job.number (j + 0) ≡ true = grind (arith, here) in
    rw same refl
numbered_is j (suc i) (job ∷ jobs) is =
    let here : job.number ≡ j = grind arith in
    let rest : are_numbered_from (j + 1) jobs ≡ true = grind arith in
    let other : eqb job.number (j + suc i) ≡ false = grind (arith, here) in
    let next : j + suc i ≡ j + 1 + i = omega arith in
    let found : find (λ (x : ChartJob). eqb x.number (j + suc i)) jobs ≡ slice_get jobs i =
    subst (λ n. find (λ (x : ChartJob). eqb x.number n) jobs ≡ slice_get jobs i) (sym next) (numbered_is (j + 1) i jobs rest) in
    rw other found

-- the same of jobs that stand in turn
pub found_in_turn : (jobs : List ChartJob) (first : ChartJob) (k : ℕ) → Some first ≡ slice_get jobs 0 → are_in_turn jobs ≡ true → first.number ≤ k
    → job_numbered k jobs ≡ slice_get jobs (k - first.number)
found_in_turn [] first k is turn le = absurd cc
found_in_turn (job ∷ jobs) first k is turn le =
    let same : first ≡ job = cc in
    let at = numbered_is job.number (k - job.number) (job ∷ jobs) turn in
    let place : job.number + (k - job.number) ≡ k = subst (λ (f : ChartJob). f.number + (k - f.number) ≡ k) same (omega (arith, le)) in
    rw same (subst (λ n. job_numbered n (job ∷ jobs) ≡ slice_get (job ∷ jobs) (k - job.number)) place at)

pub none_in_turn : (jobs : List ChartJob) (first : ChartJob) (k : ℕ) → Some first ≡ slice_get jobs 0 → are_in_turn jobs ≡ true → k < first.number
    → job_numbered k jobs ≡ None
none_in_turn [] first k is turn lt = refl
none_in_turn (job ∷ jobs) first k is turn lt =
    let same : first ≡ job = cc in
    none_before job.number k (job ∷ jobs) turn (subst (λ (f : ChartJob). k < f.number) same lt)

-- what is looked up at a place, if it is there
pub looked_up : (r : Option (Bor ChartJob)) (jobs : List ChartJob) (i : ℕ) → is_some r ≡ ltb i (length jobs)
    → IfSome r (λ x. x.now ≡ get_or jobs i x.now) → option_copied r ≡ slice_get jobs i
looked_up None jobs i is at = sym (slice_get_past jobs i (grind (arith, is)))
looked_up (Some x) jobs i is at = sym (slice_get_read jobs (length jobs) i x.now refl (grind (arith, is)) at)
