-- The jobs that are held of a server, against the jobs accepted and the units got.
use Rattle.std.proofs.Common.{◌≡◌, ℕ, ◌+◌, ◌≤◌, ◌<◌, List, [], ◌∷◌, ◌++◌, length, map, refl, ap, arith, eqb, length-append, length-drop, inl, inr, is_some}
use Rattle.std.specs.Prelude.{if◌then◌else◌}
use Rattle.std.proofs.lemmas.Bool.{cases_Bool}
use Rattle.std.proofs.lemmas.Bool.Decides.{nat_tests}
use Rattle.std.proofs.lemmas.List.{length-map}
use Rattle.std.proofs.lemmas.List.Sums.{sum_by-take-le}
use Rattle.std.specs.List.{sum_by, AllByRecursion}
use Rattle.cbs_job.specs.Work.{Meaning, Lowers}
use Rattle.cbs_job.proofs.WholeResults.{output_last}
use Rattle.cbs_steps.specs.Faces.{backlog_of, with_job, with_unit}
use Rattle.cbs_steps.specs.Accounts.{Account, need, finished, face_of, account_with_job, account_with_unit}
use Rattle.cbs_steps.specs.History.{unit_reply}
use Rattle.cbs_core.specs.Agreement.{with_first_number, AgreesJobs}
use Rattle.cbs_steps.specs.Promises.{owed}
use Rattle.cbs_queues.specs.Queues.{jobs_run, result_run}
use Rattle.cbs_core.specs.Held.{ran_of}
use Rattle.cbs_steps.proofs.JobsLeft.{AreLeft, Parts, owed_parts, first_served, joined_parts}

module _ {W : Type 0} (f : W → ℕ) (n : ℕ) where
  -- the units left, as a list of them
  lefts_of : (jobs ys : List W) → AreLeft f n jobs ys → map f jobs ≡ with_first_number n (map f ys)
  lefts_of [] [] l = refl
  lefts_of (j ∷ js) (y ∷ ys) l = let first = l.0 in let rest = l.1 in cc
  lefts_of _ _ l = absurd l

  -- and the other way round
  left_by : (jobs ys : List W) → map f jobs ≡ with_first_number n (map f ys) → AreLeft f n jobs ys
  left_by [] [] e = tt
  left_by (j ∷ js) (y ∷ ys) e = (cc, cc)
  left_by [] (y ∷ ys) e = cc
  left_by (j ∷ js) [] e = cc

-- what a unit of the first job does
record Served {W : Type 0} (work : Meaning W) (jobs : List W) (a : Account W) : Type 0 where
  parts : Parts work (jobs_run work jobs) a.accepted (a.got + 1) (if is_some (result_run work jobs) then finished work a + 1 else finished work a)
  ran : (s : ℕ) → ran_of s (finished work a) (result_run work jobs) ≡ unit_reply work a s

-- the unit of the first job either ends it or leaves some
served : {W : Type 0} (work : Meaning W) → Lowers work → (jobs : List W) (a : Account W) → Parts work jobs a.accepted a.got (finished work a)
    → 0 < length jobs → AllByRecursion (λ w. 0 < work.left w) jobs → Served work jobs a
served work law [] a p some all = absurd (omega arith)
served work law (job ∷ js) a p some all =
    let one = first_served work law job js a.accepted a.got (finished work a) _ refl p all in
    elim (cases_Bool (eqb (work.left (work.after job)) 0)) [
      | inl e ↦
          let none : work.left (work.after job) ≡ 0 = grind (arith, nat_tests) in
          record { parts = rw e (one.last none); ran = λ s. rw (← one.test, e, one.told, output_last work law job all.0 none) }
      | inr e ↦ record { parts = rw e (one.some (grind (arith, nat_tests))); ran = λ s. rw (← one.test, e) }
    ]

-- what is left of the accepted jobs agrees with them
pub agrees_by : {W : Type 0} (work : Meaning W) (jobs : List W) (a : Account W) (k : ℕ) → Parts work jobs a.accepted a.got k → AgreesJobs work jobs a
agrees_by work jobs a k p = record { results = rw p.count p.results; lefts = rw p.count (lefts_of work.left _ jobs _ p.lefts) }

module _ {W : Type 0} (work : Meaning W) (jobs : List W) (a : Account W) (agrees : AgreesJobs work jobs a) where
  -- the jobs held are those left of the accepted ones
  pub parts_of : Parts work jobs a.accepted a.got (finished work a)
  parts_of = record { count = refl; results = agrees.results; lefts = left_by work.left _ jobs _ agrees.lefts }

  -- as many jobs are held as the backlog is
  pub length_jobs : length jobs ≡ backlog_of (face_of work a)
  length_jobs = let e = ap length agrees.results in simp (length-map, length-drop) at e

  -- what is left of them is owed
  pub owed_jobs : sum_by work.left jobs ≡ owed work a
  owed_jobs = owed_parts work jobs a.accepted a.got (finished work a) parts_of

  -- a unit of the first job
  module _ (law : Lowers work) (some : 0 < length jobs) (left : AllByRecursion (λ w. 0 < work.left w) jobs) where
    -- after the unit the jobs held are those left by one unit more, and the result is that of the accepted jobs
    served_is : Served work jobs a
    served_is = served work law jobs a parts_of some left

    -- the jobs after the unit are the unfinished ones, with one unit more got
    pub unit_jobs : AgreesJobs work (jobs_run work jobs) (account_with_unit a)
    unit_jobs = agrees_by work (jobs_run work jobs) (account_with_unit a) _ served_is.parts

    -- the face counts a finished job if the unit was its last
    pub unit_face : face_of work (account_with_unit a) ≡ with_unit (is_some (result_run work jobs)) (face_of work a)
    unit_face = rw served_is.parts.count refl

    -- and the result gives its whole result
    pub unit_ran : (s : ℕ) → ran_of s (finished work a) (result_run work jobs) ≡ unit_reply work a s
    unit_ran = served_is.ran

  -- one more job
  module _ (now : ℕ) (job : W) (paid : a.got ≤ need work a (length a.accepted)) (some : 0 < work.left job) where
    -- the jobs held, and then the new one, are those left of the accepted jobs and the new one by the units got
    joined_is : Parts work (jobs ++ job ∷ []) (a.accepted ++ job ∷ []) a.got (finished work a)
    joined_is =
        let p : a.got ≤ sum_by work.left a.accepted = omega (arith, paid, sum_by-take-le work.left a.accepted (length a.accepted)) in
        joined_parts work a.accepted a.got (finished work a) job refl p some jobs parts_of

    -- the jobs with one more after them are the unfinished ones, with one more accepted
    pub job_jobs : AgreesJobs work (jobs ++ job ∷ []) (account_with_job work now job a)
    job_jobs = agrees_by work (jobs ++ job ∷ []) (account_with_job work now job a) _ joined_is

    -- the face counts one more accepted job
    pub job_face : face_of work (account_with_job work now job a) ≡ with_job now (face_of work a)
    job_face = rw (joined_is.count, length-append a.accepted (job ∷ [])) refl
