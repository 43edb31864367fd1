-- Once a server is closed, no submit to it is accepted.
use Rattle.std.proofs.Common.{◌≡◌, ℕ, zero, suc, ◌+◌, Bool, true, false, leb, map, ◌||◌, eqb, List, [], ◌∷◌, refl, ◌∙◌, ap, arith, Option, Some, None, inl, inr}
use Rattle.std.proofs.lemmas.Bool.{cases_Bool}
use Rattle.std.proofs.lemmas.Bool.Decides.{nat_tests}
use Rattle.cbs_job.specs.Work.{Meaning}
use Rattle.cbs_steps.specs.Faces.{Face, face_at, submit_refusal, close_refusal}
use Rattle.cbs_steps.specs.Accounts.{Account, face_of}
use Rattle.cbs_steps.specs.History.{History, ◌⊕◌, World, account, faces, world_after, submit_reply, close_reply, charge_reply, charge_refusal, after_closing, reply_in}
use Rattle.cbs_steps.specs.Replies.{is_lack, IsAccepted, HandsBack, grown, Answers, AnswersAll}
use Rattle.cbs_steps.specs.Laws.{account_in, replies_after, NoneAfterClose}
use Rattle.cbs_steps.specs.Errors.{is_out_of_memory}
use Rattle.std.specs.Prelude.{slice_get}
use Rattle.cbs_rules.specs.Rules.{clock_end}
use Rattle.cbs_steps.proofs.SubmitRefusals.{refusal_named}
use Rattle.cbs_steps.specs.declared.error.CoreError.{CoreError}
use Rattle.cbs_steps.specs.declared.error.CoreError.TheVariants as error
use Rattle.cbs_steps.specs.declared.step.Step.{Step}
use Rattle.cbs_steps.specs.declared.step.Step.TheVariants.{Submit, Run, Advance, Close, Charge}
use Rattle.cbs_steps.specs.declared.reply.Reply.{Reply}
use Rattle.cbs_steps.specs.declared.reply.Reply.TheVariants as reply
use Rattle.cbs_steps.proofs.Histories.{account_face, holds_grown}

module _ {W : Type 0} (work : Meaning W) where
  -- a closed server stays closed by every step
  closed_grown : (M : History W) (x : Step W) (r : Reply W) (s : ℕ) → (account_in work M s).closed ≡ true → (account_in work (grown M x r) s).closed ≡ true
  closed_grown M x r s h =
      holds_grown work (λ now a. a.closed ≡ true) (λ now a ready k. k) (λ now a k. k) (λ now a k. refl) (λ now a k. k) (λ now j a k. k) (λ now n a some runs k. k) M x r s h

  -- a closed server refuses
  closed_refuses : (backlog : ℕ) (fs : List Face) (s : ℕ) → (face_at fs s).closed ≡ true → (e : CoreError) × (submit_refusal backlog fs s ≡ Some e)
  closed_refuses backlog [] s h = (error.NoSuchServer, refl)
  closed_refuses backlog (f ∷ fs) zero h = (error.Closed, rw h refl)
  closed_refuses backlog (f ∷ fs) (suc s) h = closed_refuses backlog fs s h

  -- a closed server accepts nothing
  not_accepted : (M : History W) (s : ℕ) (job : W) (r : Reply W) → (account_in work M s).closed ≡ true → Answers work M (Submit s job) r → IsAccepted r → ⊥
  not_accepted M s job r h answers accepted =
      let refusal = closed_refuses M.setup.backlog (faces work (world_after work M)) s
      (ap (λ (f : Face). f.closed) (account_face work (world_after work M).accounts s) ∙ h) in
      let is : reply_in work M (Submit s job) ≡ reply.NotAccepted (record { error = refusal.0; task = job }) =
      ap (submit_reply (world_after work M) s job) refusal.1 in
      elim (cases_Bool (is_lack r)) [
        | inl t ↦ let p : HandsBack (Submit s job) r × IsAccepted (reply_in work M (Submit s job)) = rw t at answers in let e = accepted.1 in let k = p.0 in cc
        | inr f ↦ let p : r ≡ reply_in work M (Submit s job) = rw f at answers in let e = accepted.1 in cc
      ]

  -- the first account does not matter for a close further on
  tail_closing : (now : ℕ) (a : Account W) (accounts : List (Account W)) (s : ℕ) (o : Option CoreError)
      → account (after_closing (record { now = now; accounts = a ∷ accounts }) (suc s) o).accounts (suc s)
      ≡ account (after_closing (record { now = now; accounts = accounts }) s o).accounts s
  tail_closing now a accounts s None = refl
  tail_closing now a accounts s (Some e) = refl

  -- after a close of server s, which may be refused, s is closed; a server that is not there counts as closed
  closes_at : (now : ℕ) (accounts : List (Account W)) (s : ℕ)
      → (account (after_closing (record { now = now; accounts = accounts }) s (close_refusal (map (face_of work) accounts) s)).accounts s).closed ≡ true
  closes_at now [] s = refl
  closes_at now (a ∷ accounts) zero = elim (cases_Bool a.closed) [ inl t ↦ rw t refl | inr f ↦ rw f refl ]
  closes_at now (a ∷ accounts) (suc s) = ap (λ (b : Account W). b.closed)
      (tail_closing now a accounts s (close_refusal (map (face_of work) accounts) s)) ∙ closes_at now accounts s

  -- after a close of t with its reply, server s is closed if it was closed before, or if t is s
  close_grown : (M : History W) (t s : ℕ) (r : Reply W) (closed : Bool) → (closed ≡ true → (account_in work M s).closed ≡ true) → Answers work M (Close t) r
      → (closed || eqb t s) ≡ true → (account_in work (grown M (Close t) r) s).closed ≡ true
  close_grown M t s r closed h answers either = elim (cases_Bool closed) [
    | inl y ↦ closed_grown M (Close t) r s (h y)
    | inr n ↦
        let same : t ≡ s = let e : eqb t s ≡ true = rw n at either in grind (arith, nat_tests) in
        elim (cases_Bool (is_lack r)) [
          | inl l ↦ let p : ⊥ × IsAccepted (reply_in work M (Close t)) = rw l at answers in absurd p.0
          | inr f ↦ rw (f, same) (closes_at (world_after work M).now (world_after work M).accounts s)
        ]
  ]

  -- with replies of the rules, no submit to a closed server is accepted
  pub NoneAfterClose-all : (M : History W) (xs : List (Step W)) (rs : List (Reply W)) (s : ℕ) (closed : Bool) → AnswersAll work M xs rs
      → (closed ≡ true → (account_in work M s).closed ≡ true) → NoneAfterClose s closed xs rs
  NoneAfterClose-all M [] rs s closed all h = tt
  NoneAfterClose-all M (x ∷ xs) [] s closed all h = absurd all
  NoneAfterClose-all M (Submit t job ∷ xs) (r ∷ rs) s closed all h = (
    (λ y same accepted. not_accepted M t job r (rw same (h y)) all.0 accepted),
    NoneAfterClose-all (grown M (Submit t job) r) xs rs s closed all.1 (λ y. closed_grown M (Submit t job) r s (h y)),
  )
  NoneAfterClose-all M (Close t ∷ xs) (r ∷ rs) s closed all h =
      NoneAfterClose-all (grown M (Close t) r) xs rs s (closed || eqb t s) all.1 (close_grown M t s r closed h all.0)
  NoneAfterClose-all M (x ∷ xs) (r ∷ rs) s closed all h = NoneAfterClose-all (grown M x r) xs rs s closed all.1 (λ y. closed_grown M x r s (h y))

  -- the rules never reply that memory is refused
  no_lack : (w : World W) (s : ℕ) (job : W) (o : Option CoreError) → ((e : CoreError) → Some e ≡ o → is_out_of_memory e ≡ false)
      → is_lack (submit_reply w s job o) ≡ false
  no_lack w s job None named = refl
  no_lack w s job (Some e) named = named e refl

  -- the reply to a close never says that memory is refused
  no_lack-close : (o : Option CoreError) → is_lack {W = W} (close_reply o) ≡ false
  no_lack-close None = refl
  no_lack-close (Some e) = refl

  no_lack-charge : (o : Option CoreError) → is_lack {W = W} (charge_reply o) ≡ false
  no_lack-charge None = refl
  no_lack-charge (Some e) = refl

  -- the rules alone never reply that memory is refused
  sure : (M : History W) (x : Step W) → is_lack (reply_in work M x) ≡ false
  sure M (Submit s job) =
      let w = world_after work M in
      no_lack w s job (submit_refusal M.setup.backlog (faces work w) s) (refusal_named M.setup.backlog (slice_get (faces work w) s))
  sure M Run = refl
  sure M (Advance n) = elim (cases_Bool (leb ((world_after work M).now + n) clock_end)) [ inl t ↦ rw t refl | inr f ↦ rw f refl ]
  sure M (Close s) = no_lack-close (close_refusal (faces work (world_after work M)) s)
  sure M (Charge s n) = no_lack-charge (charge_refusal (world_after work M) s n)

  -- the replies of the rules are replies to the list
  all_answered : (M : History W) (xs : List (Step W)) → AnswersAll work M xs (replies_after work M xs)
  all_answered M [] = tt
  all_answered M (x ∷ xs) = let f = sure M x in (rw f refl, rw f (all_answered (M ⊕ x) xs))

  -- the law over a list of steps that memory did not refuse
  pub steps_close : (M : History W) (xs : List (Step W)) (s : ℕ) → NoneAfterClose s (account_in work M s).closed xs (replies_after work M xs)
  steps_close M xs s = NoneAfterClose-all M xs (replies_after work M xs) s (account_in work M s).closed (all_answered M xs) (λ closed. closed)
