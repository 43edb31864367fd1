-- The jobs that are left of a list by some units, as one unit more is run and as one job more comes in.
use Rattle.std.proofs.Common.{◌≡◌, ℕ, ◌+◌, ◌-◌, ◌≤◌, ◌<◌, List, [], ◌∷◌, ◌++◌, length, take, drop, map, get_or, refl, sym, ap, ◌∙◌, arith, eqb}
use Rattle.std.proofs.Common.{length-append, length-drop, inl, inr}
use Rattle.std.proofs.lemmas.Bool.{cases_lt}
use Rattle.std.proofs.lemmas.Bool.Decides.{nat_tests}
use Rattle.std.proofs.lemmas.List.{take_all, take-append-le, drop-append-le, drop_more, get_or-map, map-append}
use Rattle.std.proofs.lemmas.List.Sums.{sum_by-cons, sum_by-append, sum_by-take-drop, sum_by_more}
use Rattle.std.specs.List.{sum_by, AllByRecursion}
use Rattle.cbs_job.specs.Work.{Meaning, Lowers, whole}
use Rattle.cbs_job.proofs.WholeResults.{whole_kept}
use Rattle.cbs_lists.proofs.Lists.{positive_along}
use Rattle.cbs_lists.proofs.Sums.{same_sum}
use Rattle.cbs_steps.proofs.FinishedJobs.{count_done, count_done-le, count_done_within, count_done_beyond, count_done-is}

-- y stands at place k, and ys follow it
record IsFront {W : Type 0} (xs : List W) (k : ℕ) (y : W) (ys : List W) : Type 0 where
  within : k < length xs
  here : get_or xs k y ≡ y
  rest : drop (k + 1) xs ≡ ys

-- so it is of each rest that is not empty
front : {W : Type 0} (xs : List W) (k : ℕ) (y : W) (ys : List W) → drop k xs ≡ y ∷ ys → IsFront xs k y ys
front xs k y ys e =
    let within : k < length xs = let n = ap length e in omega (arith, length-drop k xs) in
    let split = drop_more xs k y within in
    record { within = within; here = cc; rest = cc }

-- the units of one job more are its own and those before it
need_more : {W : Type 0} (f : W → ℕ) (xs : List W) (k : ℕ) (y : W) (ys : List W) → drop k xs ≡ y ∷ ys → sum_by f (take (k + 1) xs) ≡ sum_by f (take k xs) + f y
need_more f xs k y ys e =
    let h = front xs k y ys e in
    sum_by_more f xs k y h.within ∙ ap (λ z. sum_by f (take k xs) + f z) h.here

-- the first job has n units left, and each other job all of its own
abbrev pub AreLeft : {W : Type 0} → (W → ℕ) → ℕ → List W → List W → Type 0
AreLeft f n [] [] = Unit {0}
AreLeft f n (j ∷ js) (y ∷ ys) = (f j ≡ n) × (map f js ≡ map f ys)
AreLeft f n _ _ = ⊥

-- the jobs held are those left of the jobs xs by g units, of which k are finished
pub record Parts {W : Type 0} (work : Meaning W) (jobs xs : List W) (g k : ℕ) : Type 0 where
  pub count : count_done work.left xs g ≡ k
  pub results : map (whole work) jobs ≡ map (whole work) (drop k xs)
  pub lefts : AreLeft work.left (sum_by work.left (take (k + 1) xs) - g) jobs (drop k xs)

module _ {W : Type 0} (f : W → ℕ) (xs : List W) (g k : ℕ) where
  -- if no unit of the next job was run, what is left is what each job came with
  rest_lefts : (js ys : List W) → map f js ≡ map f ys → drop k xs ≡ ys → sum_by f (take k xs) ≡ g → AreLeft f (sum_by f (take (k + 1) xs) - g) js ys
  rest_lefts [] [] e d s = tt
  rest_lefts [] (z ∷ zs) e d s = cc
  rest_lefts (j ∷ js) [] e d s = cc
  rest_lefts (j ∷ js) (z ∷ zs) e d s =
      let same : f j ≡ f z = cc in
      let n = need_more f xs k z zs d in
      (omega arith, cc)

  -- fewer units were run than the next job needs to be done
  last_more : (ys : List W) → drop k xs ≡ ys → AllByRecursion (λ w. 0 < f w) ys → sum_by f (take k xs) ≡ g → k < length xs → g < sum_by f (take (k + 1) xs)
  last_more [] d all full short = let e = ap length d in let l = length-drop k xs in absurd (omega arith)
  last_more (z ∷ zs) d all full short = let n = need_more f xs k z zs d in let p = all.0 in omega arith

  -- what is left of the jobs held is what the jobs xs need and g units have not paid
  owed_of : (jobs ys : List W) → drop k xs ≡ ys → sum_by f (take k xs) ≤ g → (k < length xs → g < sum_by f (take (k + 1) xs))
      → AreLeft f (sum_by f (take (k + 1) xs) - g) jobs ys → sum_by f jobs ≡ sum_by f xs - g
  owed_of [] [] d within beyond l = let n = sum_by-take-drop f xs k in let e = ap (sum_by f) d in omega arith
  owed_of (j ∷ js) (y ∷ ys) d within beyond l =
      let over = beyond (front xs k y ys d).within in
      let more = need_more f xs k y ys d in
      let all = sum_by-take-drop f xs k in
      let rest = ap (sum_by f) d in
      let first = l.0 in
      let others = same_sum f js ys l.1 in
      omega (arith, sum_by-cons f j js, sum_by-cons f y ys)
  owed_of _ _ d within beyond l = absurd l

  module _ (is : count_done f xs g ≡ k) where
    -- no more jobs are finished than there are
    done-le : k ≤ length xs
    done-le = rw (← is) (count_done-le f xs g)

    -- the g units suffice for the k finished jobs
    done_within : sum_by f (take k xs) ≤ g
    done_within = rw is at (count_done_within f xs g)

    -- they do not suffice for the next job
    done_beyond : k < length xs → g < sum_by f (take (k + 1) xs)
    done_beyond = rw is at (count_done_beyond f xs g)

-- what is left of the jobs held is owed
pub owed_parts : {W : Type 0} (work : Meaning W) (jobs xs : List W) (g k : ℕ) → Parts work jobs xs g k → sum_by work.left jobs ≡ sum_by work.left xs - g
owed_parts work jobs xs g k p =
    owed_of work.left xs g k jobs (drop k xs) refl (done_within work.left xs g k p.count) (done_beyond work.left xs g k p.count) p.lefts

-- what a unit of the first job does: whether it was the last, what the job comes to, and what is then left
pub record FirstServed {W : Type 0} (work : Meaning W) (job : W) (js xs : List W) (g k : ℕ) : Type 0 where
  pub test : eqb (work.left (work.after job)) 0 ≡ eqb (sum_by work.left (take (k + 1) xs)) (g + 1)
  pub told : get_or (map (whole work) xs) k 0 ≡ whole work job
  pub last : work.left (work.after job) ≡ 0 → Parts work js xs (g + 1) (k + 1)
  pub some : 0 < work.left (work.after job) → Parts work (work.after job ∷ js) xs (g + 1) k

module _ {W : Type 0} (work : Meaning W) (law : Lowers work) (job : W) (js xs : List W) (g k : ℕ) where
  -- so it is if the first job has a unit left
  pub first_served : (rest : List W) → drop k xs ≡ rest → Parts work (job ∷ js) xs g k → AllByRecursion (λ w. 0 < work.left w) (job ∷ js) → FirstServed work job js xs g k
  first_served [] d p all = absurd (rw d at p.lefts)
  first_served (y ∷ ys) d p all =
      let at = front xs k y ys d in
      let l = rw d at p.lefts in
      let v = rw d at p.results in
      let same : whole work job ≡ whole work y = cc in
      let wholes : map (whole work) js ≡ map (whole work) ys = cc in
      let within = done_within work.left xs g k p.count in
      let beyond = done_beyond work.left xs g k p.count at.within in
      let less : work.left (work.after job) ≡ work.left job - 1 = law job all.0 in
      let first = l.0 in
      let had = all.0 in
      record {
        test = grind (arith, nat_tests);
        told = get_or-map (whole work) xs k y 0 at.within ∙ (ap (whole work) at.here ∙ sym same);
        last = λ none.
            let full : sum_by work.left (take (k + 1) xs) ≡ g + 1 = omega arith in
            let more = last_more work.left xs (g + 1) (k + 1) ys at.rest (positive_along work.left js ys l.1 all.1) full in
            record {
              count = count_done-is work.left xs (g + 1) (k + 1) (let lt = at.within in omega arith) (omega arith) more;
              results = rw at.rest wholes;
              lefts = rw at.rest (rest_lefts work.left xs (g + 1) (k + 1) js ys l.1 at.rest full);
            };
        some = λ some.
            let kept : whole work (work.after job) ≡ whole work y = whole_kept work law job all.0 ∙ same in
            record {
              count = count_done-is work.left xs (g + 1) k (let lt = at.within in omega arith) (omega arith) (λ _. omega arith);
              results = rw d (cc);
              lefts = rw d (omega arith, l.1);
            };
      }

-- one more job
module _ {W : Type 0} (work : Meaning W) (xs : List W) (g k : ℕ) (job : W)
    (c : count_done work.left xs g ≡ k) (paid : g ≤ sum_by work.left xs) (some : 0 < work.left job) where
  abbrev more : List W
  more = xs ++ job ∷ []

  -- with the new job after them, the units still suffice for the finished jobs
  joined_begun : sum_by work.left (take k more) ≤ g
  joined_begun = rw (take-append-le k xs (job ∷ []) (done-le work.left xs g k c)) (done_within work.left xs g k c)

  -- if a job was unfinished, the jobs up to the first such need the units that they needed before
  joined_need : k < length xs → sum_by work.left (take (k + 1) more) ≡ sum_by work.left (take (k + 1) xs)
  joined_need lt = rw (take-append-le (k + 1) xs (job ∷ []) (omega arith))

  -- if all were finished, the new job needs just what the units got leave
  joined_last : length xs ≤ k → sum_by work.left (take (k + 1) more) ≡ g + work.left job
  joined_last ge =
      let n : length more ≤ k + 1 = omega (arith, length-append xs (job ∷ []), done-le work.left xs g k c) in
      let e : take k xs ≡ xs = take_all k xs ge in
      let f : sum_by work.left xs ≤ g = rw (← e) (done_within work.left xs g k c) in
      rw (take_all (k + 1) more n, sum_by-append work.left xs (job ∷ [])) (omega (arith, sum_by-cons work.left job []))

  -- with the new job after them, the units do not suffice for one job more than the finished ones
  joined_beyond : g < sum_by work.left (take (k + 1) more)
  joined_beyond = elim (cases_lt k (length xs)) [
    | inl lt ↦ rw (joined_need lt) (done_beyond work.left xs g k c lt)
    | inr ge ↦ omega (arith, joined_last ge)
  ]

  -- units left that agree with those of the unfinished jobs do so with the new job after both
  joined_lefts : (jobs rest : List W) → drop k xs ≡ rest → AreLeft work.left (sum_by work.left (take (k + 1) xs) - g) jobs rest
      → AreLeft work.left (sum_by work.left (take (k + 1) more) - g) (jobs ++ job ∷ []) (rest ++ job ∷ [])
  joined_lefts [] [] d l =
      let ge : length xs ≤ k = let e = ap length d in let f = length-drop k xs in omega arith in
      let n = joined_last ge in
      (omega arith, refl)
  joined_lefts (j ∷ js) (y ∷ ys) d l =
      let n = joined_need (front xs k y ys d).within in
      (rw n l.0, rw (map-append work.left js (job ∷ []), map-append work.left ys (job ∷ []), l.1))
  joined_lefts _ _ d l = absurd l

  -- the jobs held, and then the new one, are those left of xs and the new one, with as many finished
  pub joined_parts : (jobs : List W) → Parts work jobs xs g k → Parts work (jobs ++ job ∷ []) more g k
  joined_parts jobs p =
      let behind : drop k more ≡ drop k xs ++ job ∷ [] = drop-append-le k xs (job ∷ []) (done-le work.left xs g k c) in
      let v = p.results in
      record {
        count = count_done-is work.left more g k (omega (arith, length-append xs (job ∷ []), done-le work.left xs g k c)) joined_begun (λ _. joined_beyond);
        results = rw (behind, map-append (whole work) jobs (job ∷ []), map-append (whole work) (drop k xs) (job ∷ []), v);
        lefts = rw behind (joined_lefts jobs (drop k xs) refl p.lefts);
      }
