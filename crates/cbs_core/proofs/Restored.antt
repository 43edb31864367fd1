-- What a core keeps as it is brought to a state in the midst of a run.
use Rattle.std.proofs.Common.{◌≡◌, ◌≢◌, ℕ, zero, suc, ◌+◌, ◌-◌, ◌<◌, ◌≤◌, ◌^◌, Bool, true, false, eqb, List, [], ◌∷◌, ◌++◌, length, Some, None, refl, ◌∙◌, ap, sym, arith, inl, inr, length-append}
use Rattle.std.proofs.lemmas.Bool.{cases_Bool}
use Rattle.std.proofs.lemmas.Bool.Decides.{nat_tests}
use Rattle.std.specs.List.{AllByRecursion, AllZip}
use Rattle.cbs_job.specs.Work.{Meaning}
use Rattle.cbs_rate.proofs.Lists.{AllByRecursion-push}
use Rattle.cbs_rules.specs.Rules.{IsState, clock_end}
use Rattle.cbs_lists.specs.Lists.{changed_at}
use Rattle.cbs_lists.proofs.Lists.{changed_kept, AllByRecursion-changed_at, AllZip-changed_at}
use Rattle.cbs_queues.specs.Queues.{list_at}
use Rattle.cbs_steps.specs.Faces.{Face, no_face, face_at, is_active, backlog_of, reservations}
use Rattle.cbs_steps.specs.Servers.{IsServer}
use Rattle.cbs_core.specs.Held.{CoreHeld, running}
use Rattle.cbs_core.specs.Invariant.{HoldsBacklog, IsCore, IsLastUnit}
use Rattle.cbs_core.specs.Past.{restored, with_job_back, MayHaveBeen, IsStill, MayGiveBack}
use Rattle.cbs_core.specs.declared.past.Past.{Past}
use Rattle.cbs_core.proofs.Cores.{server_at, queue_count, backlog_at, few_jobs, core_made}

-- a list with an element changed into itself
unchanged_at : {X : Type 0} (xs : List X) (i : ℕ) → changed_at (λ x. x) xs i ≡ xs
unchanged_at [] i = refl
unchanged_at (x ∷ xs) zero = refl
unchanged_at (x ∷ xs) (suc i) = ap (λ ys. x ∷ ys) (unchanged_at xs i)

-- a past state is what a server keeps
server_restored : (backlog now : ℕ) (p : Past) (f : Face) → IsServer backlog now f → IsState p.state.reservation p.state.state
    → MayHaveBeen now p f → IsServer backlog now (restored p f)
server_restored backlog now p f is state been = record {
  lawful = is.lawful;
  state = rw (← been.reservation) state;
  free = been.free;
  begun = λ active. absurd (let n : eqb 0 1 ≡ false = refl in grind (arith, nat_tests));
  early = been.early;
  counted = omega arith;
  few_done = been.few_done;
  few_charged = been.few_charged;
  few_jobs = omega arith;
}

module _ {W : Type 0} {work : Meaning W} {core : CoreHeld W} (ok : IsCore work core) where
  -- of a core that is still, what is known of the last unit holds whatever the servers are
  still_last : IsStill core → (faces : List Face) → IsLastUnit core.clock faces core.last
  still_last still faces =
      let same : core.last.advanced_to ≡ core.clock = elim (cases_Bool (eqb core.last.advanced_to core.clock)) [
        | inl t ↦ grind (arith, nat_tests)
        | inr n ↦ let stands = still.stands in absurd (let s = rw n at stands in cc)
      ] in
      record {
        advanced = ok.last.advanced;
        charged = ok.last.charged;
        few = ok.last.few;
        there = λ moved. absurd (moved same);
        begun = λ moved. absurd (moved same);
        unfinished = λ u. let n = still.no_end in cc;
      }

  -- server s is brought to a past state
  pub core_restored : (s : ℕ) (p : Past) {faces : List Face} {rooms : List ℕ} → IsStill core → s < length core.faces
      → IsState p.state.reservation p.state.state → MayHaveBeen core.clock p (face_at core.faces s) → faces ≡ changed_at (restored p) core.faces s
      → IsCore work (record { backlog = core.backlog; clock = core.clock; last = core.last; faces = faces; queues = core.queues; rooms = rooms })
  core_restored s p {faces} {rooms} still lt state been shown =
      let jobs = AllZip-changed_at (HoldsBacklog work) core.queues core.faces s [] no_face (λ jobs. jobs) (restored p) ok.jobs
      (let n = queue_count ok in omega arith)
      (λ h. record {
        counted = let c = h.counted in let i = been.idle in let none : backlog_of (face_at core.faces s) ≡ 0 = grind (arith, nat_tests) in omega arith;
        unfinished = h.unfinished;
      }) in
      rw shown (core_made ok core.clock core.last _ core.queues rooms ok.clock
      (changed_kept (λ f. f.terms.reservation) (restored p) core.faces s (λ f. refl))
      (AllByRecursion-changed_at _ _ (restored p) core.faces s no_face ok.each (λ f is. is)
      (λ is. server_restored core.backlog core.clock p (face_at core.faces s) is state been))
      (rw unchanged_at at jobs)
      (still_last still _))

  -- server s gets one unfinished job more, which came before
  pub core_given_back : (s : ℕ) (job : W) {faces : List Face} {queues : List (List W)} {rooms : List ℕ} → MayGiveBack core s → 0 < work.left job
      → faces ≡ changed_at with_job_back core.faces s → queues ≡ changed_at (λ jobs. jobs ++ job ∷ []) core.queues s
      → IsCore work (record { backlog = core.backlog; clock = core.clock; last = core.last; faces = faces; queues = queues; rooms = rooms })
  core_given_back s job {faces} {queues} {rooms} may some shown given =
      rw (shown, given) (core_made ok core.clock core.last _ _ rooms ok.clock
      (changed_kept (λ f. f.terms.reservation) with_job_back core.faces s (λ f. refl))
      (AllByRecursion-changed_at _ _ with_job_back core.faces s no_face ok.each (λ f is. is)
      (λ is. record {
        lawful = is.lawful;
        state = is.state;
        free = is.free;
        begun = λ _. may.begun;
        early = is.early;
        counted = let c = is.counted in omega arith;
        few_done = is.few_done;
        few_charged = is.few_charged;
        few_jobs = let few = may.few in let c = is.counted in omega arith;
      }))
      (AllZip-changed_at (HoldsBacklog work) core.queues core.faces s [] no_face (λ jobs. jobs ++ job ∷ []) with_job_back ok.jobs
      (let n = queue_count ok in let lt = may.within in omega arith)
      (λ h. record {
        counted = let c = h.counted in let k = (server_at ok s may.within).counted in omega (arith, length-append (list_at core.queues s) (job ∷ []));
        unfinished = AllByRecursion-push (λ w. 0 < work.left w) (list_at core.queues s) job h.unfinished some;
      }))
      (still_last may.still _))

  -- there are few enough jobs of server s for one more
  pub few_given_back : (s : ℕ) → MayGiveBack core s → length (list_at core.queues s) < 4096
  few_given_back s may = let held = (backlog_at ok s may.within).counted in let few = may.few in let small = ok.small in omega arith
