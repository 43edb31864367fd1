-- What a job, a unit, a replenishment and a close keep of a server holds after every history.
use Rattle.std.proofs.Common.{◌≡◌, ℕ, zero, suc, ◌+◌, List, [], ◌∷◌, ◌++◌, length, map, refl, ap, sym, ◌∙◌, true, leb, ltb, Option, Some, None, inl, inr}
use Rattle.std.proofs.Math.ListN.{get_or-map}
use Rattle.std.proofs.lemmas.Bool.{cases_Bool}
use Rattle.std.proofs.lemmas.Simd.{map-map}
use Rattle.cbs_job.specs.Work.{Meaning}
use Rattle.cbs_rules.specs.Rules.{clock_end}
use Rattle.cbs_lists.specs.Lists.{changed_at}
use Rattle.cbs_steps.specs.Choice.{IsChoice}
use Rattle.cbs_steps.specs.Continuations.{◌⊕⊕◌}
use Rattle.cbs_steps.specs.Faces.{face_at, is_ready, ranks, submit_refusal, close_refusal}
use Rattle.cbs_steps.specs.Accounts.{Account, face_of, no_account, account_with_job, account_with_unit, account_with_charge, account_with_replenishment, account_with_close, account_let_go}
use Rattle.cbs_steps.specs.History.{World, Setup, History, ◌⊕◌, account, faces, chosen, tick, ticks, start, runner, after_submit, after_run}
use Rattle.cbs_steps.specs.History.{after_closing, after_advance, after_charging, charge_refusal, let_go, next, after, world_after}
use Rattle.cbs_steps.proofs.Choices.{choice_is}
use Rattle.cbs_steps.proofs.Faces.{rank_ready}
use Rattle.cbs_steps.specs.Promises.{AllQuiet}
use Rattle.cbs_steps.specs.Quiet.{IsQuietStep, AreQuiet}
use Rattle.cbs_steps.specs.Replies.{is_lack, grown, grown_by}
use Rattle.cbs_steps.specs.declared.error.CoreError.{CoreError}
use Rattle.cbs_steps.specs.declared.error.CoreError.TheVariants as error
use Rattle.std.proofs.lemmas.Bool.Decides.{nat_tests}
use Rattle.std.proofs.Common.{arith, ◌<◌}
use Rattle.cbs_steps.specs.declared.reply.Reply.{Reply}
use Rattle.cbs_steps.specs.declared.step.Step.{Step}
use Rattle.cbs_steps.specs.declared.step.Step.TheVariants.{Submit, Run, Advance, Close, Charge}

module _ {W : Type 0} (work : Meaning W) where
  -- what a server shows is what its account shows
  pub account_face : (accounts : List (Account W)) (s : ℕ) → face_at (map (face_of work) accounts) s ≡ face_of work (account accounts s)
  account_face accounts s = get_or-map (face_of work) accounts s no_account

  -- the chosen server is ready
  pub chosen_is_ready : (w : World W) (s : ℕ) → chosen work w ≡ Some s → is_ready (face_of work (account w.accounts s)) ≡ true
  chosen_is_ready w s e =
      let rs = ranks (faces work w) in
      let h : IsChoice rs (length rs) (Some s) = rw e at (choice_is rs) in
      ap is_ready (sym (account_face w.accounts s)) ∙ sym (rank_ready (faces work w) s) ∙ h.ready

  -- the server of a Run that runs is ready
  pub runner_ready : (w : World W) (s : ℕ) → runner work w ≡ Some s → is_ready (face_of work (account w.accounts s)) ≡ true
  runner_ready w s e = elim (cases_Bool (ltb w.now clock_end)) [
    | inl t ↦ chosen_is_ready w s (rw t at e)
    | inr f ↦ let g : None ≡ Some s = rw f at e in cc
  ]

  -- a server is still ready if all are let go
  pub loose_ready : (w : World W) (t : ℕ) → is_ready (face_of work (account w.accounts t)) ≡ true → is_ready (face_of work (account (let_go w).accounts t)) ≡ true
  loose_ready w t ready = rw (get_or-map account_let_go w.accounts t no_account) ready

  -- all show what they showed
  pub let_go_faces : (w : World W) → faces work (let_go w) ≡ faces work w
  let_go_faces w = map-map (face_of work) account_let_go w.accounts

  -- a tick, and n ticks, if all are let go
  let_go_tick : (w : World W) → tick (let_go w) ≡ let_go (tick w)
  let_go_tick w = ap (λ (xs : List (Account W)). record { now = w.now + 1; accounts = xs })
      (map-map (account_with_replenishment (w.now + 1)) account_let_go w.accounts ∙ sym (map-map account_let_go (account_with_replenishment (w.now + 1)) w.accounts))

  pub let_go_ticks : (n : ℕ) (w : World W) → ticks n (let_go w) ≡ let_go (ticks n w)
  unfolding ticks
  let_go_ticks zero w = refl
  let_go_ticks (suc n) w = ap (ticks n) (let_go_tick w) ∙ let_go_ticks n (tick w)

  -- a server that is charged is there
  pub charged_there : (w : World W) (t n : ℕ) → charge_refusal w t n ≡ None → t < length w.accounts
  charged_there w t n e = elim (cases_Bool (leb (length w.accounts) t)) [
    | inl y ↦ let g : Some error.NoSuchServer ≡ None = rw y at e in cc
    | inr f ↦ grind (arith, nat_tests)
  ]

  -- it runs
  pub charged_runs : (w : World W) (t n : ℕ) → charge_refusal w t n ≡ None → (account w.accounts t).runs ≡ true
  charged_runs w t n e = elim (cases_Bool (account w.accounts t).runs) [
    | inl y ↦ y
    | inr f ↦ elim (cases_Bool (leb (length w.accounts) t)) [
      | inl y ↦ let g : Some error.NoSuchServer ≡ None = rw y at e in cc
      | inr h ↦ let g : Some error.NotRunning ≡ None = rw (h, f) at e in cc
    ]
  ]

  module _ (P : ℕ → Account W → Type 0)
      (unit : (now : ℕ) (a : Account W) → is_ready (face_of work a) ≡ true → P now a → P now (account_with_unit a))
      (replenishment : (now : ℕ) (a : Account W) → P now a → P (now + 1) (account_with_replenishment (now + 1) a))
      (close : (now : ℕ) (a : Account W) → P now a → P now (account_with_close a))
      (loose : (now : ℕ) (a : Account W) → P now a → P now (account_let_go a)) where
    -- P of server s, at the clock of the world
    abbrev Holds : World W → ℕ → Type 0
    Holds w s = P w.now (account w.accounts s)

    -- if a change of account i keeps P of it, P still holds of each account of which it held
    holds_changed : (now : ℕ) (f : Account W → Account W) (accounts : List (Account W)) (i s : ℕ)
        → (P now (account accounts i) → P now (f (account accounts i))) → P now (account accounts s) → P now (account (changed_at f accounts i) s)
    holds_changed now f [] i s k h = h
    holds_changed now f (a ∷ accounts) zero zero k h = k h
    holds_changed now f (a ∷ accounts) zero (suc s) k h = h
    holds_changed now f (a ∷ accounts) (suc i) zero k h = h
    holds_changed now f (a ∷ accounts) (suc i) (suc s) k h = holds_changed now f accounts i s k h

    -- if a tick keeps P of every account, P still holds of each of which it held, and past the last server
    holds_map : (now : ℕ) (accounts : List (Account W)) (s : ℕ) → P now (account accounts s)
        → P (now + 1) (account (map (account_with_replenishment (now + 1)) accounts) s)
    holds_map now [] s h = replenishment now no_account h
    holds_map now (a ∷ accounts) zero h = replenishment now a h
    holds_map now (a ∷ accounts) (suc s) h = holds_map now accounts s h

    -- a tick keeps P of each account
    holds_tick : (w : World W) (s : ℕ) → Holds w s → Holds (tick w) s
    holds_tick w s h = holds_map w.now w.accounts s h

    -- so do n ticks
    pub holds_ticks : (n : ℕ) (w : World W) (s : ℕ) → Holds w s → Holds (ticks n w) s
    unfolding ticks
    holds_ticks zero w s h = h
    holds_ticks (suc n) w s h = holds_ticks n (tick w) s (holds_tick w s h)

    -- if letting go keeps P of every account, P still holds of each of which it held
    holds_let_go : (w : World W) (s : ℕ) → Holds w s → Holds (let_go w) s
    holds_let_go w s h = go w.accounts s h
      where
        go : (accounts : List (Account W)) (s : ℕ) → P w.now (account accounts s) → P w.now (account (map account_let_go accounts) s)
        go [] s h = h
        go (a ∷ accounts) zero h = loose w.now a h
        go (a ∷ accounts) (suc s) h = go accounts s h

    -- so does a close, refused or not
    holds_close : (w : World W) (t s : ℕ) (o : Option CoreError) → Holds w s → Holds (after_closing w t o) s
    holds_close w t s None h = holds_changed w.now account_with_close w.accounts t s (close w.now (account w.accounts t)) h
    holds_close w t s (Some e) h = h

    -- so does a run, if the server that runs, if one does, is ready
    holds_run : (w : World W) (s : ℕ) (o : Option ℕ) → ((t : ℕ) → o ≡ Some t → is_ready (face_of work (account w.accounts t)) ≡ true) → Holds w s
        → Holds (after_run w o) s
    holds_run w s None ready h = h
    holds_run w s (Some t) ready h =
        holds_tick (record w { accounts = changed_at account_with_unit (let_go w).accounts t }) s
        (holds_changed w.now account_with_unit (let_go w).accounts t s (unit w.now (account (let_go w).accounts t) (loose_ready w t (ready t refl)))
        (holds_let_go w s h))

    -- so does each step that is no submit: a run
    pub holds_run_step : (backlog : ℕ) (w : World W) (s : ℕ) → Holds w s → Holds (next work backlog w Run) s
    holds_run_step backlog w s h = holds_run w s (runner work w) (runner_ready w) h

    -- an advance
    pub holds_advance_step : (backlog : ℕ) (w : World W) (n s : ℕ) → Holds w s → Holds (next work backlog w (Advance n)) s
    holds_advance_step backlog w n s h = elim (cases_Bool (leb (w.now + n) clock_end)) [ inl t ↦ rw t (go n) | inr f ↦ rw f h ]
      where
        go : (n : ℕ) → Holds (after_advance w n) s
        go zero = h
        go (suc n) = holds_ticks (suc n) (let_go w) s (holds_let_go w s h)

    -- and a close
    pub holds_close_step : (backlog : ℕ) (w : World W) (t s : ℕ) → Holds w s → Holds (next work backlog w (Close t)) s
    holds_close_step backlog w t s h = holds_close w t s (close_refusal (faces work w) t) h

    module _ (job : (now : ℕ) (j : W) (a : Account W) → P now a → P now (account_with_job work now j a)) where
      -- a submit keeps it, accepted or refused
      holds_submit : (w : World W) (t s : ℕ) (j : W) (o : Option CoreError) → Holds w s → Holds (after_submit work w t j o) s
      holds_submit w t s j None h = holds_changed w.now (account_with_job work w.now j) w.accounts t s (job w.now j (account w.accounts t)) h
      holds_submit w t s j (Some e) h = h

      -- one step more that takes nobody's time
      holds_quiet_next : (backlog : ℕ) (w : World W) (x : Step W) (s : ℕ) → IsQuietStep work w x → Holds w s → Holds (next work backlog w x) s
      holds_quiet_next backlog w (Submit t j) s q h = holds_submit w t s j (submit_refusal backlog (faces work w) t) h
      holds_quiet_next backlog w Run s q h = holds_run_step backlog w s h
      holds_quiet_next backlog w (Advance n) s q h = holds_advance_step backlog w n s h
      holds_quiet_next backlog w (Close t) s q h = holds_close_step backlog w t s h
      holds_quiet_next backlog w (Charge t n) s q h = go n (charge_refusal w t n) q
        where
          go : (n : ℕ) (o : Option CoreError) → (o ≡ None → n ≡ 0) → Holds (after_charging w t n o) s
          go zero None q = h
          go (suc n) None q = let z = q refl in absurd (omega arith)
          go zero (Some e) q = h
          go (suc n) (Some e) q = h

      -- a whole history of such steps
      pub holds_quiet_after : (setup : Setup) (M : List (Step W)) (s : ℕ) → AreQuiet work setup M → Holds (start setup) s → Holds (after work setup M) s
      holds_quiet_after setup [] s quiet h = h
      holds_quiet_after setup (x ∷ M) s quiet h = holds_quiet_next setup.backlog (after work setup M) x s quiet.1 (holds_quiet_after setup M s quiet.0 h)

      -- more such steps, in order
      pub holds_quiet_on : (M : History W) (xs : List (Step W)) (s : ℕ) → AllQuiet work M xs → Holds (world_after work M) s → Holds (world_after work (M ⊕⊕ xs)) s
      holds_quiet_on M [] s quiet h = h
      holds_quiet_on M (x ∷ xs) s quiet h = holds_quiet_on (M ⊕ x) xs s quiet.1 (holds_quiet_next M.setup.backlog (world_after work M) x s quiet.0 h)

    module _ (charge : (now n : ℕ) (a : Account W) → 0 < n → a.runs ≡ true → P now a → P now (account_with_charge n a)) where
      -- a charge, refused or not
      holds_charging : (w : World W) (t n s : ℕ) (o : Option CoreError) → (o ≡ None → (account w.accounts t).runs ≡ true) → Holds w s → Holds (after_charging w t n o) s
      holds_charging w t zero s None runs h = h
      holds_charging w t (suc n) s None runs h = holds_ticks (suc n) (record w { accounts = changed_at (account_with_charge (suc n)) w.accounts t }) s
          (holds_changed w.now (account_with_charge (suc n)) w.accounts t s (charge w.now (suc n) (account w.accounts t) (omega arith) (runs refl)) h)
      holds_charging w t zero s (Some e) runs h = h
      holds_charging w t (suc n) s (Some e) runs h = h

      pub holds_charge_step : (backlog : ℕ) (w : World W) (t n s : ℕ) → Holds w s → Holds (next work backlog w (Charge t n)) s
      holds_charge_step backlog w t n s h = holds_charging w t n s (charge_refusal w t n) (charged_runs w t n) h

    module _ (job : (now : ℕ) (j : W) (a : Account W) → P now a → P now (account_with_job work now j a))
        (charge : (now n : ℕ) (a : Account W) → 0 < n → a.runs ≡ true → P now a → P now (account_with_charge n a)) where
      -- one step more
      pub holds_next : (backlog : ℕ) (w : World W) (x : Step W) (s : ℕ) → Holds w s → Holds (next work backlog w x) s
      holds_next backlog w (Submit t j) s h = holds_submit job w t s j (submit_refusal backlog (faces work w) t) h
      holds_next backlog w Run s h = holds_run_step backlog w s h
      holds_next backlog w (Advance n) s h = holds_advance_step backlog w n s h
      holds_next backlog w (Close t) s h = holds_close_step backlog w t s h
      holds_next backlog w (Charge t n) s h = holds_charge_step charge backlog w t n s h

      -- one step more, with its reply
      pub holds_grown : (M : History W) (x : Step W) (r : Reply W) (s : ℕ) → Holds (world_after work M) s → Holds (world_after work (grown M x r)) s
      holds_grown M x r s h = elim (cases_Bool (is_lack r)) [
        | inl t ↦ rw t h
        | inr f ↦ rw f (holds_next M.setup.backlog (world_after work M) x s h)
      ]

      -- more steps, with their replies
      pub holds_grown_by : (M : History W) (xs : List (Step W)) (rs : List (Reply W)) (s : ℕ) → Holds (world_after work M) s
          → Holds (world_after work (grown_by M xs rs)) s
      holds_grown_by M [] rs s h = h
      holds_grown_by M (x ∷ xs) [] s h = h
      holds_grown_by M (x ∷ xs) (r ∷ rs) s h = holds_grown_by (grown M x r) xs rs s (holds_grown M x r s h)

      -- a whole history
      pub holds_after : (setup : Setup) (M : List (Step W)) (s : ℕ) → Holds (start setup) s → Holds (after work setup M) s
      holds_after setup [] s h = h
      holds_after setup (x ∷ M) s h = holds_next setup.backlog (after work setup M) x s (holds_after setup M s h)

      -- more steps after a list, the newest first
      pub holds_behind : (setup : Setup) (K M : List (Step W)) (s : ℕ) → Holds (after work setup M) s → Holds (after work setup (K ++ M)) s
      holds_behind setup [] M s h = h
      holds_behind setup (x ∷ K) M s h = holds_next setup.backlog (after work setup (K ++ M)) x s (holds_behind setup K M s h)

      -- more steps, in order
      pub holds_on : (M : History W) (xs : List (Step W)) (s : ℕ) → Holds (world_after work M) s → Holds (world_after work (M ⊕⊕ xs)) s
      holds_on M [] s h = h
      holds_on M (x ∷ xs) s h = holds_on (M ⊕ x) xs s (holds_next M.setup.backlog (world_after work M) x s h)

  -- after more steps a server keeps its terms
  pub terms_behind : (setup : Setup) (K M : List (Step W)) (s : ℕ)
      → (account (after work setup (K ++ M)).accounts s).terms ≡ (account (after work setup M).accounts s).terms
  terms_behind setup K M s = let t = (account (after work setup M).accounts s).terms in holds_behind (λ now a. a.terms ≡ t)
      (λ now a ready h. h) (λ now a h. h) (λ now a h. h) (λ now a h. h) (λ now j a h. h) (λ now n a some runs h. h) setup K M s refl
