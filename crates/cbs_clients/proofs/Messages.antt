-- Lists of messages: with one more, and one list after another.
use Rattle.std.proofs.Common.{◌≡◌, ◌+◌, true, false, ◌||◌, List, [], ◌∷◌, ◌++◌, length, refl, ap, length-append, arith, ◌∙◌}
use Rattle.cbs_clients.specs.declared.message.Message.{Message}
use Rattle.cbs_clients.specs.declared.message.Message.TheVariants.{Job, End}
use Rattle.cbs_clients.specs.Messages.{jobs_among, has_end, end_is_last}

module _ {W : Type 0} where
  -- the jobs of two lists of messages
  pub jobs_among-append : (ms ns : List (Message W)) → jobs_among (ms ++ ns) ≡ jobs_among ms ++ jobs_among ns
  jobs_among-append [] ns = refl
  jobs_among-append (Job w ∷ ms) ns = ap (λ ws. w ∷ ws) (jobs_among-append ms ns)
  jobs_among-append (End ∷ ms) ns = jobs_among-append ms ns

  -- one more job
  pub jobs_among-job : (ms : List (Message W)) (w : W) → jobs_among (ms ++ Job w ∷ []) ≡ jobs_among ms ++ w ∷ []
  jobs_among-job ms w = jobs_among-append ms (Job w ∷ [])

  -- an end is none
  pub jobs_among-end : (ms : List (Message W)) → jobs_among (ms ++ End ∷ []) ≡ jobs_among ms
  jobs_among-end [] = refl
  jobs_among-end (Job w ∷ ms) = ap (λ ws. w ∷ ws) (jobs_among-end ms)
  jobs_among-end (End ∷ ms) = jobs_among-end ms

  pub length-jobs_among-job : (ms : List (Message W)) (w : W) → length (jobs_among (ms ++ Job w ∷ [])) ≡ length (jobs_among ms) + 1
  length-jobs_among-job ms w = ap length (jobs_among-job ms w) ∙ omega (arith, length-append (jobs_among ms) (w ∷ []))

  -- a job more among those sent is one less of those left
  pub sent-job : (ms : List (Message W)) (w : W) (ws : List W) → jobs_among (ms ++ Job w ∷ []) ++ ws ≡ jobs_among ms ++ w ∷ ws
  sent-job [] w ws = refl
  sent-job (Job v ∷ ms) w ws = ap (λ us. v ∷ us) (sent-job ms w ws)
  sent-job (End ∷ ms) w ws = sent-job ms w ws

  -- an end in two lists
  pub has_end-append : (ms ns : List (Message W)) → has_end (ms ++ ns) ≡ (has_end ms || has_end ns)
  has_end-append [] ns = refl
  has_end-append (Job w ∷ ms) ns = has_end-append ms ns
  has_end-append (End ∷ ms) ns = refl

  -- a job is no end
  pub has_end-job : (ms : List (Message W)) (w : W) → has_end (ms ++ Job w ∷ []) ≡ has_end ms
  has_end-job [] w = refl
  has_end-job (Job v ∷ ms) w = has_end-job ms w
  has_end-job (End ∷ ms) w = refl

  -- an end is one
  pub has_end-end : (ms : List (Message W)) → has_end (ms ++ End ∷ []) ≡ true
  has_end-end [] = refl
  has_end-end (Job v ∷ ms) = has_end-end ms
  has_end-end (End ∷ ms) = refl

  -- if there is no end yet, after one more message an end is still the last
  pub end_is_last-more : (ms : List (Message W)) (m : Message W) → has_end ms ≡ false → end_is_last (ms ++ m ∷ []) ≡ true
  end_is_last-more [] (Job w) e = refl
  end_is_last-more [] End e = refl
  end_is_last-more (Job v ∷ ms) m e = end_is_last-more ms m e
  end_is_last-more (End ∷ ms) m e = cc

pub ruleset pushed = (sent-job, jobs_among-append, has_end-append, length-jobs_among-job, jobs_among-end, has_end-job, has_end-end, end_is_last-more)
