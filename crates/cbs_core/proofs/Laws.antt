-- The laws of the core that the crates above may cite.
use Rattle.std.proofs.Common.{◌≡◌, ℕ, ◌<◌, ◌≤◌, true, false, List, [], length, map, get_or, ◌++◌, sym, ◌∙◌, ap, subst, arith, inl, inr}
use Rattle.std.proofs.lemmas.Bool.{cases_eq, cases_lt}
use Rattle.std.proofs.lemmas.Bool.Decides.{nat_tests}
use Rattle.std.proofs.lemmas.List.{length-map, get_or-map, nil_from_length}
use Rattle.cbs_job.specs.Work.{Meaning}
use Rattle.cbs_steps.specs.Faces.{face_at, new_face, no_face, is_active}
use Rattle.cbs_steps.specs.Accounts.{Account, face_of, new_account, no_account}
use Rattle.cbs_steps.specs.History.{Setup, History, ◌⊕◌, account, world_after}
use Rattle.cbs_core.specs.Agreement.{AgreesJobs, Agrees, HasHistory, Follows, AllAllowed}
use Rattle.cbs_core.specs.Held.{CoreHeld, held_at, HoldsJob}
use Rattle.cbs_queues.specs.Queues.{list_at}
use Rattle.cbs_steps.specs.Continuations.{IsBusy, ◌⊕⊕◌}
use Rattle.cbs_steps.specs.declared.step.Step.{Step}
use Rattle.cbs_steps.proofs.Histories.{account_face}
use Rattle.cbs_core.proofs.HeldJobs.{length_jobs}
use Rattle.cbs_lists.proofs.Lists.{within_lists, AllZip-length, AllZip-get}
use Rattle.cbs_steps.proofs.Laws.{after-append, allowed-append, allowed-weaker, setup_after}
pub use Rattle.cbs_steps.proofs.Laws.{run_later, advance_later, punctual_after, terms_count, Completes-none, after-push, steps_complete, steps_close}
pub use Rattle.cbs_steps.proofs.Laws.{all_yielded}

module _ {W : Type 0} (work : Meaning W) where
  -- a server that holds a job is there
  pub holds_within : (core : CoreHeld W) → HasHistory work core → (s : ℕ) → 0 < length (held_at core s).jobs → s < length core.faces
  holds_within core history s some = elim (cases_lt s (length core.faces)) [
    | inl lt ↦ lt
    | inr ge ↦ absurd (history (λ M agrees.
        let w = world_after work M in
        let l = within_lists core.queues s some in
        let shown = ap length agrees.world.shown in
        absurd (omega (arith, AllZip-length (AgreesJobs work) core.queues w.accounts agrees.world.jobs, length-map w.accounts (face_of work)))))
  ]

  -- beyond the last server no job is held
  pub none_beyond : (core : CoreHeld W) → HasHistory work core → (s : ℕ) → length core.faces ≤ s → (held_at core s).jobs ≡ []
  none_beyond core history s ge = elim (cases_lt 0 (length (held_at core s).jobs)) [
    | inl some ↦ absurd (let lt = holds_within core history s some in omega arith)
    | inr none ↦ nil_from_length (held_at core s).jobs (omega arith)
  ]

  -- if the core holds a job, a job is unfinished
  pub busy_by : (core : CoreHeld W) (M : History W) → Agrees work core M → HoldsJob core → IsBusy work (world_after work M)
  busy_by core M agrees b =
      let w = world_after work M in
      let here = AllZip-get (AgreesJobs work) core.queues w.accounts b.0 [] no_account agrees.world.jobs (within_lists core.queues b.0 b.1) in
      let count = length_jobs work (list_at core.queues b.0) (account w.accounts b.0) here in
      let some = b.1 in
      let active : is_active (face_of work (account w.accounts b.0)) ≡ true = grind (arith, nat_tests) in
      (b.0, ap is_active (account_face work w.accounts b.0) ∙ active)

  -- what is later by every history is later
  pub later_by : (old new : CoreHeld W) (x : Step W) → HasHistory work old → ((M : History W) → Agrees work old M → Agrees work new (M ⊕ x))
      → ((M : History W) → Agrees work old M → (world_after work M).now < (world_after work (M ⊕ x)).now) → old.clock < new.clock
  later_by old new x h follows later = elim (cases_lt old.clock new.clock) [
    | inl lt ↦ lt
    | inr ge ↦ absurd (h (λ M agrees. let a = agrees.world.clock in let b = (follows M agrees).world.clock in let l = later M agrees in absurd (omega arith)))
  ]

module _ {W : Type 0} (work : Meaning W) where
  -- what follows by one list and then by another follows by both
  pub follows_both : (a b c : CoreHeld W) (xs ys : List (Step W)) → Follows work a b xs → Follows work b c ys → Follows work a c (xs ++ ys)
  follows_both a b c xs ys p q = λ M agrees. subst (λ (N : History W). Agrees work c N) (sym (after-append M xs ys)) (q (M ⊕⊕ xs) (p M agrees))

  -- steps that are allowed, and more allowed steps after them
  pub allowed_both : (P : History W → Step W → Type 0) (a b : CoreHeld W) (xs ys : List (Step W)) → Follows work a b xs → AllAllowed work P a xs
      → AllAllowed work P b ys → AllAllowed work P a (xs ++ ys)
  allowed_both P a b xs ys f p q = λ M agrees. allowed-append P M xs ys (p M agrees) (q (M ⊕⊕ xs) (f M agrees))

  -- what is allowed by one rule is allowed by a weaker one
  pub allowed_weaker : (P Q : History W → Step W → Type 0) (a : CoreHeld W) (xs : List (Step W)) → ((N : History W) (x : Step W) → P N x → Q N x)
      → AllAllowed work P a xs → AllAllowed work Q a xs
  allowed_weaker P Q a xs w p = λ M agrees. allowed-weaker P Q M xs w (p M agrees)

  -- steps leave the greatest backlog
  pub backlog_kept : (a b : CoreHeld W) (xs : List (Step W)) → HasHistory work a → Follows work a b xs → b.backlog ≡ a.backlog
  backlog_kept a b xs h f = elim (cases_eq b.backlog a.backlog) [
    | inl e ↦ e
    | inr ne ↦ absurd (h (λ M agrees. ne ((f M agrees).world.same_backlog
        ∙ (ap (λ (s : Setup). s.backlog) (setup_after M xs) ∙ sym agrees.world.same_backlog))))
  ]

  -- what follows a core with a history has one
  pub history_kept : (a b : CoreHeld W) (xs : List (Step W)) → HasHistory work a → Follows work a b xs → HasHistory work b
  history_kept a b xs h f = λ none. h (λ M agrees. none (M ⊕⊕ xs) (f M agrees))

-- what a new core holds of a server: no job
pub record IsNew {W : Type 0} (core : CoreHeld W) (s : ℕ) : Type 0 where
  pub jobs : (held_at core s).jobs ≡ []
  pub accepted : (held_at core s).face.accepted ≡ 0
  pub finished : (held_at core s).face.finished ≡ 0
  pub unclosed : (held_at core s).face.closed ≡ false

module _ {W : Type 0} (work : Meaning W) (core : CoreHeld W) (setup : Setup) (agrees : Agrees work core (record { setup = setup; steps = [] })) where
  -- as many servers as were given
  pub new_count : length core.faces ≡ length setup.servers
  new_count = ap length agrees.world.shown ∙ length-map (map new_account setup.servers) (face_of work) ∙ length-map setup.servers new_account

  -- a server of a new core
  pub new_server : (s : ℕ) → s < length core.faces → IsNew core s
  new_server s lt =
      let n = new_count in
      let opened : List (Account W) = map new_account setup.servers in
      let terms = get_or setup.servers s no_face.terms in
      let is : account opened s ≡ new_account terms =
      get_or-map new_account setup.servers s no_face.terms no_account (omega arith) in
      let count = AllZip-length (AgreesJobs work) core.queues opened agrees.world.jobs in
      let within : s < length core.queues = omega (arith, length-map setup.servers (new_account {W = W})) in
      let here = rw is at (AllZip-get (AgreesJobs work) core.queues opened s [] no_account agrees.world.jobs within) in
      let face = account_face work opened s ∙ ap (face_of work) is in
      let shown : face_at core.faces s ≡ new_face terms = ap (λ fs. face_at fs s) agrees.world.shown ∙ face in
      let none = nil_from_length (list_at core.queues s) (simp length-map at (ap length here.results)) in
      record { jobs = none; accepted = rw shown; finished = rw shown; unclosed = rw shown }
