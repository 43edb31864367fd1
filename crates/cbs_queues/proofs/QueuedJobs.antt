-- The jobs in the queues of all servers, as the queues change.
use Rattle.std.proofs.Common.{◌≡◌, ℕ, List, [], ◌∷◌, ◌++◌, map, drop, ap, sym, ◌∙◌}
use Rattle.std.proofs.Math.ListN.{get_or-map}
use Rattle.std.proofs.lemmas.List.{map-append, drop-map}
use Rattle.cbs_queues.specs.declared.queues.QueuedJob.{QueuedJob}
use Rattle.cbs_lists.specs.Lists.{changed_at}
use Rattle.cbs_queues.specs.Queues.{jobs_of, list_at}
use Rattle.cbs_lists.proofs.Lists.{map-changed_at}

module _ {W : Type 0} (queues : List (List (QueuedJob W))) (s : ℕ) where
  -- the jobs of one server
  pub jobs_here : list_at (map jobs_of queues) s ≡ jobs_of (list_at queues s)
  jobs_here = get_or-map jobs_of queues s []

  -- of which one is first
  pub job_first : (first : QueuedJob W) → list_at queues s ≡ first ∷ drop 1 (list_at queues s)
      → list_at (map jobs_of queues) s ≡ first.job ∷ jobs_of (drop 1 (list_at queues s))
  job_first first found = jobs_here ∙ ap jobs_of found

  -- a job comes in
  pub jobs_pushed : (come : QueuedJob W)
      → map jobs_of (changed_at (λ queue. queue ++ come ∷ []) queues s) ≡ changed_at (λ jobs. jobs ++ come.job ∷ []) (map jobs_of queues) s
  jobs_pushed come =
      map-changed_at jobs_of (λ queue. queue ++ come ∷ []) (λ jobs. jobs ++ come.job ∷ []) queues s []
      (map-append (λ (queued : QueuedJob W). queued.job) (list_at queues s) (come ∷ []))

  -- a unit of the first job is done
  pub jobs_stepped : (now : QueuedJob W)
      → map jobs_of (changed_at (λ queue. now ∷ drop 1 queue) queues s) ≡ changed_at (λ jobs. now.job ∷ drop 1 jobs) (map jobs_of queues) s
  jobs_stepped now =
      map-changed_at jobs_of (λ queue. now ∷ drop 1 queue) (λ jobs. now.job ∷ drop 1 jobs) queues s []
      (ap (λ jobs. now.job ∷ jobs) (sym (drop-map (λ (queued : QueuedJob W). queued.job) 1 (list_at queues s))))

  -- the first job leaves
  pub jobs_popped : map jobs_of (changed_at (drop 1) queues s) ≡ changed_at (drop 1) (map jobs_of queues) s
  jobs_popped =
      map-changed_at jobs_of (drop 1) (drop 1) queues s []
      (sym (drop-map (λ (queued : QueuedJob W). queued.job) 1 (list_at queues s)))
