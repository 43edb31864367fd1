-- What each server has taken in, as jobs come and go.
use Rattle.std.proofs.Common.{◌≡◌, ℕ, zero, suc, ◌+◌, ◌*◌, ◌%◌, ◌^◌, ◌≤◌, ◌<◌, List, [], ◌∷◌, ◌++◌, length, length-append, get_or, set, drop}
use Rattle.std.proofs.Common.{replicate, slice_get, Some, refl, ap, arith}
use Rattle.std.proofs.lemmas.List.{length-map, map-append}
use Rattle.std.proofs.lemmas.List.Sums.{sum_by-cons, sum_by-append}
use Rattle.std.specs.List.{sum_by, AllByRecursion, AllZip}
use Rattle.cbs_job.specs.Work.{Meaning}
use Rattle.cbs_rate.proofs.Lists.{AllByRecursion-push}
use Rattle.cbs_queues.specs.declared.queues.QueuedJob.{QueuedJob}
use Rattle.cbs_lists.specs.Lists.{changed_at}
use Rattle.cbs_queues.specs.Queues.{AreCounted, IsCounted, jobs_of, list_at}
use Rattle.cbs_lists.proofs.Lists.{written, AllZip-length, AllZip-get, AllZip-changed_at}

module _ {W : Type 0} (work : Meaning W) where
  -- nothing was taken in if no job came
  pub counted_none : (n : ℕ) → AllZip (IsCounted work) (replicate n []) (replicate n 0)
  counted_none zero = tt
  counted_none (suc n) = (record { counted = tt; short = tt; few = omega arith }, counted_none n)

  -- so many jobs have few units left
  few_left : (jobs : List W) → AllByRecursion (λ job. work.left job ≤ 1000000) jobs → sum_by work.left jobs ≤ length jobs * 1000000
  few_left [] all = omega arith
  few_left (j ∷ jobs) all = let one = all.0 in omega (arith, few_left jobs all.1, sum_by-cons work.left j jobs)

  -- so few units are left after the first job
  pub behind_few : (queue : List (QueuedJob W)) (total : ℕ) → IsCounted work queue total → sum_by work.left (jobs_of (drop 1 queue)) ≤ 4096000000
  behind_few [] total h = omega arith
  behind_few (first ∷ queue) total h =
      let few = h.few in
      omega (arith, few_left (jobs_of queue) h.short, length-map queue (λ (queued : QueuedJob W). queued.job))

  -- the units that came in after the first job are those left there
  pub behind_first : (queue : List (QueuedJob W)) (total : ℕ) (first : QueuedJob W) (units : ℕ) → slice_get queue 0 ≡ Some first
      → (first.taken_in + units) % 2 ^ 64 ≡ total → units < 2 ^ 64 → IsCounted work queue total → units ≡ sum_by work.left (jobs_of (drop 1 queue))
  behind_first [] total first units found same fits h = cc
  behind_first (q ∷ queue) total first units found same fits h =
      let here : (q.taken_in + units) % 2 ^ 64 ≡ total = let is : q ≡ first = cc in rw is same in
      let counted = h.counted.0 in
      omega (arith, behind_few (q ∷ queue) total h)

  -- the units that all jobs have left are those of the first and those after it
  pub owed_first : (queue : List (QueuedJob W)) (first : QueuedJob W) → slice_get queue 0 ≡ Some first
      → work.left first.job + sum_by work.left (jobs_of (drop 1 queue)) ≡ sum_by work.left (jobs_of queue)
  owed_first [] first found = cc
  owed_first (q ∷ queue) first found =
      let same : q ≡ first = cc in rw (← same) (omega (arith, sum_by-cons work.left q.job (jobs_of queue)))

  -- the units left of the jobs, if one comes in
  left_joined : (queue : List (QueuedJob W)) (come : QueuedJob W)
      → sum_by work.left (jobs_of (queue ++ come ∷ [])) ≡ sum_by work.left (jobs_of queue) + work.left come.job
  left_joined queue come =
      rw (map-append (λ (queued : QueuedJob W). queued.job) queue (come ∷ []))
      (omega (arith, sum_by-append work.left (jobs_of queue) (come.job ∷ []), sum_by-cons work.left come.job []))

  -- the units of jobs that come in are counted one after the other
  are_joined : (queue : List (QueuedJob W)) (total : ℕ) (come : QueuedJob W) → come.taken_in ≡ (total + work.left come.job) % 2 ^ 64
      → AreCounted work queue total → AreCounted work (queue ++ come ∷ []) come.taken_in
  are_joined [] total come e all = (omega arith, tt)
  are_joined (q ∷ queue) total come e all =
      let counted = all.0 in (omega (arith, left_joined queue come), are_joined queue total come e all.1)

  -- a job comes in
  joined : (come : QueuedJob W) (queue : List (QueuedJob W)) (total : ℕ) → come.taken_in ≡ (total + work.left come.job) % 2 ^ 64
      → work.left come.job ≤ 1000000 → length queue < 4096 → IsCounted work queue total → IsCounted work (queue ++ come ∷ []) come.taken_in
  joined come [] total e few room h = record { counted = are_joined [] total come e tt; short = tt; few = omega arith }
  joined come (q ∷ queue) total e few room h = record {
    counted = are_joined (q ∷ queue) total come e h.counted;
    short = rw (map-append (λ (queued : QueuedJob W). queued.job) queue (come ∷ []))
        (AllByRecursion-push (λ job. work.left job ≤ 1000000) (jobs_of queue) come.job h.short few);
    few = omega (arith, length-append queue (come ∷ []));
  }

  -- a unit of the first job is done
  replaced : (queue : List (QueuedJob W)) (first now : QueuedJob W) → queue ≡ first ∷ drop 1 queue → now.taken_in ≡ first.taken_in
      → (total : ℕ) → IsCounted work queue total → IsCounted work (now ∷ drop 1 queue) total
  replaced [] first now found same total h = absurd (omega (arith, ap length found))
  replaced (q ∷ queue) first now found same total h = record {
    counted = (rw (same, ← ap (λ (all : List (QueuedJob W)). (get_or all 0 first).taken_in) found) h.counted.0, h.counted.1);
    short = h.short;
    few = h.few;
  }

  -- the first job leaves
  popped : (queue : List (QueuedJob W)) (total : ℕ) → IsCounted work queue total → IsCounted work (drop 1 queue) total
  popped [] total h = h
  popped (q ∷ []) total h = record { counted = tt; short = tt; few = omega arith }
  popped (q ∷ first ∷ queue) total h = let few = h.few in record { counted = h.counted.1; short = h.short.1; few = omega arith }

  -- a queue changes, and its total does not
  counted_kept : (f : List (QueuedJob W) → List (QueuedJob W)) (queues : List (List (QueuedJob W))) (totals : List ℕ) (s : ℕ)
      → AllZip (IsCounted work) queues totals
      → ((total : ℕ) → IsCounted work (list_at queues s) total → IsCounted work (f (list_at queues s)) total)
      → AllZip (IsCounted work) (changed_at f queues s) totals
  counted_kept f [] totals s all k = all
  counted_kept f (queue ∷ queues) [] s all k = absurd all
  counted_kept f (queue ∷ queues) (t ∷ totals) zero all k = (k t all.0, all.1)
  counted_kept f (queue ∷ queues) (t ∷ totals) (suc s) all k = (all.0, counted_kept f queues totals s all.1 k)

  -- the queues of all servers
  module _ (queues : List (List (QueuedJob W))) (totals : List ℕ) (all : AllZip (IsCounted work) queues totals) (s : ℕ) where
    -- a unit of a first job is done
    pub all_stepped : (first now : QueuedJob W) → list_at queues s ≡ first ∷ drop 1 (list_at queues s) → now.taken_in ≡ first.taken_in
        → AllZip (IsCounted work) (changed_at (λ queue. now ∷ drop 1 queue) queues s) totals
    all_stepped first now found same = counted_kept (λ queue. now ∷ drop 1 queue) queues totals s all (replaced (list_at queues s) first now found same)

    -- a first job leaves
    pub all_popped : AllZip (IsCounted work) (changed_at (drop 1) queues s) totals
    all_popped = counted_kept (drop 1) queues totals s all (popped (list_at queues s))

    module _ (lt : s < length queues) where
      -- each queue has its total
      pub total_there : s < length totals
      total_there = omega (arith, AllZip-length (IsCounted work) queues totals all)

      module _ (total : ℕ) (read : total ≡ get_or totals s total) where
        -- which is its own
        pub counted_at : IsCounted work (list_at queues s) total
        counted_at = rw (← read) at (AllZip-get (IsCounted work) queues totals s [] total all lt)

        -- a job comes in
        pub all_joined : (come : QueuedJob W) → come.taken_in ≡ (total + work.left come.job) % 2 ^ 64 → work.left come.job ≤ 1000000
            → length (list_at queues s) < 4096 → AllZip (IsCounted work) (changed_at (λ queue. queue ++ come ∷ []) queues s) (set totals s come.taken_in)
        all_joined come e few room =
            rw (written (λ _. come.taken_in) totals s s total come.taken_in refl total_there read refl)
            (AllZip-changed_at (IsCounted work) queues totals s [] total (λ queue. queue ++ come ∷ []) (λ _. come.taken_in) all lt
            (λ _. joined come (list_at queues s) total e few room counted_at))
