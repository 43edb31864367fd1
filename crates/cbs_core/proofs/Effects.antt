-- What the calls do to the jobs of one server, and leave to the others.
use Rattle.std.proofs.Common.{◌≡◌, ℕ, zero, suc, ◌<◌, List, [], ◌∷◌, ◌++◌, length, map, refl, ◌∙◌, arith, eqb, inl, inr, is_some}
use Rattle.std.proofs.lemmas.Bool.{cases_Bool}
use Rattle.std.proofs.lemmas.Bool.Decides.{nat_tests}
use Rattle.std.specs.List.{AllByRecursion}
use Rattle.cbs_job.specs.Work.{Meaning, Lowers}
use Rattle.cbs_job.proofs.WholeResults.{whole_kept, output_last}
use Rattle.cbs_lists.specs.Lists.{changed_at}
use Rattle.cbs_steps.specs.Faces.{Face, no_face, face_at, with_job, with_unit, with_charge, with_replenishment, with_close}
use Rattle.cbs_core.specs.Held.{CoreHeld, Held, held_at, SameJobs, TakesJob, RunsJob, ClosesServer, OthersSame, AllSame, DoesRun, ran_of}
use Rattle.cbs_core.specs.declared.last_unit.LastUnit.{LastUnit}
use Rattle.cbs_queues.specs.Queues.{list_at, jobs_run, result_run}
use Rattle.cbs_steps.specs.declared.reply.Ran.{Ran}
use Rattle.cbs_core.proofs.Cores.{MayRun}
use Rattle.cbs_lists.proofs.Lists.{changed_here, changed_elsewhere}

module _ {W : Type 0} where
  -- nothing is changed if nothing is done
  pub all_same : (core : CoreHeld W) → AllSame core core
  all_same core t = record { jobs = refl; accepted = refl; finished = refl; closed = refl }

  -- what is as before, and then still is, is as before
  same_along : {a b c : Held W} → SameJobs a b → SameJobs b c → SameJobs a c
  same_along p q = record {
    jobs = q.jobs ∙ p.jobs;
    accepted = q.accepted ∙ p.accepted;
    finished = q.finished ∙ p.finished;
    closed = q.closed ∙ p.closed;
  }

  -- a replenishment leaves jobs, counts and close
  replenished_same : (now : ℕ) (faces : List Face) (s : ℕ) (jobs : List W)
      → SameJobs (record { face = face_at faces s; jobs = jobs }) (record { face = face_at (map (with_replenishment now) faces) s; jobs = jobs })
  replenished_same now [] s jobs = record { jobs = refl; accepted = refl; finished = refl; closed = refl }
  replenished_same now (f ∷ fs) zero jobs = record { jobs = refl; accepted = refl; finished = refl; closed = refl }
  replenished_same now (f ∷ fs) (suc s) jobs = replenished_same now fs s jobs

  -- so does a charge
  charge_same : (n for_unit : ℕ) (faces : List Face) (s t : ℕ) (jobs : List W)
      → SameJobs (record { face = face_at faces t; jobs = jobs }) (record { face = face_at (changed_at (with_charge n for_unit) faces s) t; jobs = jobs })
  charge_same n for_unit [] s t jobs = record { jobs = refl; accepted = refl; finished = refl; closed = refl }
  charge_same n for_unit (f ∷ fs) zero zero jobs = record { jobs = refl; accepted = refl; finished = refl; closed = refl }
  charge_same n for_unit (f ∷ fs) zero (suc t) jobs = record { jobs = refl; accepted = refl; finished = refl; closed = refl }
  charge_same n for_unit (f ∷ fs) (suc s) zero jobs = record { jobs = refl; accepted = refl; finished = refl; closed = refl }
  charge_same n for_unit (f ∷ fs) (suc s) (suc t) jobs = charge_same n for_unit fs s t jobs

  module _ {old held : CoreHeld W} (view : old ≡ held) (clock : ℕ) (last : LastUnit) (faces : List Face) (queues : List (List W)) (rooms : List ℕ) where
    abbrev new : CoreHeld W
    new = record { backlog = old.backlog; clock = clock; last = last; faces = faces; queues = queues; rooms = rooms }

    -- a replenishment of all leaves the jobs of each
    pub jumped_same : (now : ℕ) → faces ≡ map (with_replenishment now) old.faces → queues ≡ old.queues
        → AllSame held new
    jumped_same now shown same =
        rw (← view) (λ t. rw (shown, same) (replenished_same now old.faces t (list_at old.queues t)))

    -- a charge of server s, and a replenishment of all, leave the jobs of each
    pub charged_same : (now n for_unit s : ℕ) → faces ≡ map (with_replenishment now) (changed_at (with_charge n for_unit) old.faces s) → queues ≡ old.queues
        → AllSame held new
    charged_same now n for_unit s shown same = rw (← view) (λ t. rw (shown, same) (same_along (charge_same n for_unit old.faces s t (list_at old.queues t))
        (replenished_same now (changed_at (with_charge n for_unit) old.faces s) t (list_at old.queues t))))

    -- server s alone is changed
    module _ (s : ℕ) (f : Face → Face) (g : List W → List W) (shown : faces ≡ changed_at f old.faces s) (jobs : queues ≡ changed_at g old.queues s) where
      -- jobs, counts and close of every other server are as before
      pub others_same : OthersSame s old new
      others_same t ne = rw (shown, jobs, changed_elsewhere f old.faces s t no_face ne, changed_elsewhere g old.queues s t [] ne) record
          { jobs = refl; accepted = refl; finished = refl; closed = refl }

      -- what is held of s is its face and its jobs, each changed
      pub held_here : s < length old.faces → s < length old.queues → held_at new s ≡ record { face = f (face_at old.faces s); jobs = g (list_at old.queues s) }
      held_here lt within = rw (shown, jobs, changed_here f old.faces s no_face lt, changed_here g old.queues s [] within) refl

    -- a job put after those of server s, and nothing else
    pub took_job : (s q : ℕ) (job : W) → s < length old.faces → s < length old.queues → q ≡ (face_at old.faces s).accepted
        → faces ≡ changed_at (with_job clock) old.faces s → queues ≡ changed_at (λ jobs. jobs ++ job ∷ []) old.queues s
        → TakesJob job q (held_at held s) (held_at new s) × OthersSame s held new
    took_job s q job lt within number shown jobs =
        let others = others_same s (with_job clock) (λ jobs. jobs ++ job ∷ []) shown jobs in
        let here = held_here s (with_job clock) (λ jobs. jobs ++ job ∷ []) shown jobs lt within in
        rw (← view) (rw here record { number = number; jobs = refl; accepted = refl; finished = refl; closed = refl }, others)

    -- server s closed, and nothing else
    pub closed_server : (s : ℕ) → s < length old.faces → faces ≡ changed_at with_close old.faces s → queues ≡ old.queues
        → ClosesServer (held_at held s) (held_at new s) × OthersSame s held new
    closed_server s lt shown same = rw (← view) (
      rw (shown, same, changed_here with_close old.faces s no_face lt) record { jobs = refl; accepted = refl; finished = refl; closed = refl },
      λ t ne. rw (shown, same, changed_elsewhere with_close old.faces s t no_face ne) record { jobs = refl; accepted = refl; finished = refl; closed = refl },
    )

  module _ (work : Meaning W) (law : Lowers work) (s : ℕ) (before after : CoreHeld W) (others : OthersSame s before after) where
    -- what a unit of the first job of a list does
    ran_jobs : (jobs : List W) (q : ℕ) (r : Ran) → 0 < length jobs → AllByRecursion (λ w. 0 < work.left w) jobs
        → (held_at before s).jobs ≡ jobs → (held_at after s).jobs ≡ jobs_run work jobs
        → SameJobs (record { face = with_unit (is_some (result_run work jobs)) (held_at before s).face; jobs = (held_at after s).jobs }) (held_at after s)
        → q ≡ (held_at before s).face.finished → r ≡ ran_of s q (result_run work jobs) → DoesRun work r before after
    ran_jobs [] q r some all j j' late n is = absurd (omega arith)
    ran_jobs (job ∷ jobs) q r some all j j' late n is = elim (cases_Bool (eqb (work.left (work.after job)) 0)) [
      | inl last ↦
          let gone = rw last at j' in
          let found = output_last work law job all.0 (grind (arith, nat_tests)) in
          let count = rw last at late.finished in
          rw (is, last)
          (record { number = n; results = rw (j, gone, found) refl; accepted = late.accepted; finished = count; closed = late.closed }, others)
      | inr more ↦
          let left = rw more at j' in
          let here : RunsJob work q (held_at before s) (held_at after s) =
          record {
            number = n;
            some = rw left (omega arith);
            results = rw (j, left, whole_kept work law job all.0) refl;
            accepted = late.accepted;
            finished = rw more at late.finished;
            closed = late.closed;
          } in
          rw (is, more) (here, others)
    ]

  -- a run of server s, and a replenishment of all
  pub did_run : {work : Meaning W} → Lowers work → {old held : CoreHeld W} → old ≡ held
      → (clock now : ℕ) (last : LastUnit) (faces : List Face) (queues : List (List W)) (rooms : List ℕ) (s : ℕ) (r : Ran)
      → MayRun work old s → r ≡ ran_of s (face_at old.faces s).finished (result_run work (list_at old.queues s))
      → faces ≡ map (with_replenishment now) (changed_at (with_unit (is_some (result_run work (list_at old.queues s)))) old.faces s)
      → queues ≡ changed_at (jobs_run work) old.queues s
      → DoesRun work r held (record { backlog = old.backlog; clock = clock; last = last; faces = faces; queues = queues; rooms = rooms })
  did_run {work} law {old} {held} view clock now last faces queues rooms s r may is shown jobs =
      let new : CoreHeld W = record { backlog = old.backlog; clock = clock; last = last; faces = faces; queues = queues; rooms = rooms } in
      let f = with_unit (is_some (result_run work (list_at old.queues s))) in
      let middle = changed_at f old.faces s in
      let late : (t : ℕ) → SameJobs (record { face = face_at middle t; jobs = list_at queues t }) (held_at new t) =
      λ t. rw shown (replenished_same now middle t (list_at queues t)) in
      let others : OthersSame s old new = λ t ne. same_along (others_same {old = old} refl clock last middle queues rooms s f (jobs_run work) refl jobs t ne) (late t) in
      let here : list_at queues s ≡ jobs_run work (list_at old.queues s) = rw jobs (changed_here (jobs_run work) old.queues s [] may.queue) in
      let there : SameJobs (record { face = f (face_at old.faces s); jobs = list_at queues s }) (held_at new s) =
      rw (changed_here f old.faces s no_face may.within) at (late s) in
      let jobs = list_at old.queues s in
      let q = (face_at old.faces s).finished in
      rw (← view) (ran_jobs work law s old new others jobs q r may.active may.unfinished refl here there refl is)
