-- What each step keeps of all accounts, whoever's time it takes: they are sound. With it stands what being on time rests
-- on besides: the chosen server's deadline is the earliest, and throttled servers wait.
use Rattle.std.proofs.Common.{◌≡◌, ℕ, zero, suc, ◌+◌, ◌*◌, ◌/◌, ◌≤◌, ◌<◌, true, ltb, leb, List, [], ◌∷◌, length, map, arith, refl, inl}
use Rattle.std.proofs.Common.{inr, ◌∙◌, ap, Option, Some, None}
use Rattle.std.specs.List.{sum_by, AllByRecursion}
use Rattle.std.proofs.Math.ListN.{get_or-map}
use Rattle.std.proofs.lemmas.Bool.{cases_Bool}
use Rattle.std.proofs.lemmas.Bool.Decides.{nat_tests}
use Rattle.std.proofs.lemmas.List.{length-map}
use Rattle.std.proofs.lemmas.Nat.{mul-le}
use Rattle.cbs_job.specs.Work.{Meaning}
use Rattle.cbs_rate.specs.Plan.{share}
use Rattle.cbs_rules.specs.Rules.{Terms, clock_end}
use Rattle.cbs_lists.specs.Lists.{changed_at}
use Rattle.cbs_steps.specs.Choice.{Rank, rank_at, is_before, IsEarliest}
use Rattle.cbs_steps.specs.Faces.{Face, face_at, no_face, is_ready, arrived, ranks, submit_refusal, close_refusal}
use Rattle.cbs_steps.specs.Accounts.{Account, face_of, no_account, account_with_job, account_with_unit, account_with_charge, account_with_replenishment, account_with_close, account_let_go}
use Rattle.cbs_steps.specs.History.{World, account, faces, chosen, tick, ticks, runner, after_submit, after_run, after_closing, after_advance, after_charging, charge_refusal, let_go, next}
use Rattle.cbs_steps.specs.OnTime.{IsAhead}
use Rattle.cbs_steps.specs.Quiet.{IsQuiet}
use Rattle.cbs_steps.specs.declared.error.CoreError.{CoreError}
use Rattle.cbs_steps.specs.declared.step.Step.{Step}
use Rattle.cbs_steps.specs.declared.step.Step.TheVariants.{Submit, Run, Advance, Close, Charge}
use Rattle.cbs_steps.proofs.Choices.{choice_is}
use Rattle.cbs_steps.proofs.Demands.{replenished_ahead}
use Rattle.cbs_steps.proofs.Faces.{rank_ready}
use Rattle.cbs_steps.proofs.Histories.{account_face, chosen_is_ready, charged_runs, loose_ready, let_go_faces, let_go_ticks}
use Rattle.cbs_steps.proofs.LawfulServers.{IsLawful, lawful_job, lawful_unit, lawful_replenishment, lawful_close, lawful_charge, lawful_let_go}
use Rattle.cbs_lists.proofs.Lists.{AllByRecursion-map, AllByRecursion-get, AllByRecursion-changed_at}
use Rattle.cbs_lists.proofs.Sums.{sum_map, sum_times, sum_changed_same}

-- an account is lawful, and its period divides the parts of a tick
pub record IsSound {W : Type 0} (work : Meaning W) (P : ℕ) (a : Account W) : Type 0 where
  pub lawful : IsLawful work a
  pub divides : a.terms.reservation.period * (P / a.terms.reservation.period) ≡ P

-- each account is sound, and all shares together are at most a tick
pub record AllSound {W : Type 0} (work : Meaning W) (P : ℕ) (w : World W) : Type 0 where
  pub each : AllByRecursion (IsSound work P) w.accounts
  pub fits : sum_by (λ a. share P a.terms.reservation) w.accounts ≤ P

-- what is before another has no later deadline
before-deadline : (rs : List Rank) (s r : ℕ) → is_before rs s r ≡ true → (rank_at rs s).deadline ≤ (rank_at rs r).deadline
before-deadline rs s r e = grind (arith, nat_tests)

-- the deadline that the choice sees of a server
rank_deadline : (fs : List Face) (s : ℕ) → (rank_at (ranks fs) s).deadline ≡ (face_at fs s).state.deadline
rank_deadline fs s = ap (λ (r : Rank). r.deadline) (get_or-map (λ (f : Face). record { ready = is_ready f; deadline = f.state.deadline }) fs s no_face)

-- a job that comes in leaves a throttled server its deadline
pub ahead_arrived : (now : ℕ) (f : Face) → IsAhead now f → IsAhead now (record f { state = arrived now f; accepted = f.accepted + 1 })
ahead_arrived now f h = grind (arith, nat_tests)

module _ {W : Type 0} (work : Meaning W) (P : ℕ) where
  -- its share of a tick
  abbrev shares : Account W → ℕ
  shares a = share P a.terms.reservation

  -- a tick keeps a world sound
  pub sound_tick : (w : World W) → AllSound work P w → AllSound work P (tick w)
  sound_tick w ok = record {
    each = AllByRecursion-map (IsSound work P) (IsSound work P) (account_with_replenishment (w.now + 1)) w.accounts ok.each
        (λ a h. record { lawful = lawful_replenishment work (w.now + 1) a h.lawful; divides = h.divides });
    fits = rw (sum_map shares (account_with_replenishment (w.now + 1)) w.accounts) ok.fits;
  }

  -- so do n ticks
  pub sound_ticks : (n : ℕ) (w : World W) → AllSound work P w → AllSound work P (ticks n w)
  unfolding ticks
  sound_ticks zero w ok = ok
  sound_ticks (suc n) w ok = sound_ticks n (tick w) (sound_tick w ok)

  -- so does a change of one account that keeps it sound
  sound_changed : (w : World W) (f : Account W → Account W) (i : ℕ) → ((a : Account W) → (f a).terms ≡ a.terms)
      → (IsSound work P (account w.accounts i) → IsSound work P (f (account w.accounts i))) → AllSound work P w
      → AllSound work P (record w { accounts = changed_at f w.accounts i })
  sound_changed w f i same here ok = record {
    each = AllByRecursion-changed_at (IsSound work P) (IsSound work P) f w.accounts i no_account ok.each (λ a h. h) here;
    fits = rw (sum_changed_same shares f w.accounts i (λ a. ap (λ (t : Terms). share P t.reservation) (same a))) ok.fits;
  }

  -- so does a submit, accepted or refused
  sound_submit : (w : World W) (s : ℕ) (job : W) (o : Option CoreError) → AllSound work P w → AllSound work P (after_submit work w s job o)
  sound_submit w s job None ok = sound_changed w (account_with_job work w.now job) s (λ a. refl)
      (λ h. record { lawful = lawful_job work w.now job (account w.accounts s) h.lawful; divides = h.divides }) ok
  sound_submit w s job (Some e) ok = ok

  -- so does a close
  sound_close : (w : World W) (s : ℕ) (o : Option CoreError) → AllSound work P w → AllSound work P (after_closing w s o)
  sound_close w s None ok = sound_changed w account_with_close s (λ a. refl)
      (λ h. record { lawful = lawful_close work (account w.accounts s) h.lawful; divides = h.divides }) ok
  sound_close w s (Some e) ok = ok

  -- so does it that all are let go
  pub sound_let_go : (w : World W) → AllSound work P w → AllSound work P (let_go w)
  sound_let_go w ok = record {
    each = AllByRecursion-map (IsSound work P) (IsSound work P) account_let_go w.accounts ok.each (λ a h. record { lawful = lawful_let_go work a h.lawful; divides = h.divides });
    fits = rw (sum_map shares account_let_go w.accounts) ok.fits;
  }

  -- so does an advance
  sound_advance : (w : World W) (n : ℕ) → AllSound work P w → AllSound work P (after_advance w n)
  sound_advance w zero ok = ok
  sound_advance w (suc n) ok = sound_ticks (suc n) (let_go w) (sound_let_go w ok)

  -- so does what a server that runs is charged
  pub sound_charged : (w : World W) (s n : ℕ) → (account w.accounts s).runs ≡ true → AllSound work P w
      → AllSound work P (record w { accounts = changed_at (account_with_charge n) w.accounts s })
  sound_charged w s n runs ok = sound_changed w (account_with_charge n) s (λ a. refl)
      (λ h. record { lawful = lawful_charge work n (account w.accounts s) runs h.lawful; divides = h.divides }) ok

  -- so does a charge, accepted or refused
  sound_charge : (w : World W) (s n : ℕ) (o : Option CoreError) → (o ≡ None → (account w.accounts s).runs ≡ true) → AllSound work P w → AllSound work P (after_charging w s n o)
  sound_charge w s zero None runs ok = ok
  sound_charge w s (suc n) None runs ok = sound_ticks (suc n) (record w { accounts = changed_at (account_with_charge (suc n)) w.accounts s })
      (sound_charged w s (suc n) (runs refl) ok)
  sound_charge w s zero (Some e) runs ok = ok
  sound_charge w s (suc n) (Some e) runs ok = ok

  -- so does a run of the chosen server
  sound_run : (w : World W) (o : Option ℕ) → ((s : ℕ) → o ≡ Some s → chosen work w ≡ Some s) → AllSound work P w → AllSound work P (after_run w o)
  sound_run w None chose ok = ok
  sound_run w (Some s) chose ok = sound_tick (record w { accounts = changed_at account_with_unit (let_go w).accounts s })
      (sound_changed (let_go w) account_with_unit s (λ a. refl)
      (λ h. record { lawful = lawful_unit work (account (let_go w).accounts s) (loose_ready work w s (chosen_is_ready work w s (chose s refl))) h.lawful; divides = h.divides })
      (sound_let_go w ok))

  -- the server of a Run that runs is the chosen one
  pub runner_chosen : (w : World W) (s : ℕ) → runner work w ≡ Some s → chosen work w ≡ Some s
  runner_chosen w s e = elim (cases_Bool (ltb w.now clock_end)) [ inl t ↦ rw t at e | inr f ↦ let g : None ≡ Some s = rw f at e in cc ]

  -- each step keeps a world sound
  pub sound_next : (backlog : ℕ) (w : World W) (x : Step W) → AllSound work P w → AllSound work P (next work backlog w x)
  sound_next backlog w (Submit s job) ok = sound_submit w s job (submit_refusal backlog (faces work w) s) ok
  sound_next backlog w Run ok = sound_run w (runner work w) (runner_chosen w) ok
  sound_next backlog w (Advance n) ok = elim (cases_Bool (leb (w.now + n) clock_end)) [ inl t ↦ rw t (sound_advance w n ok) | inr f ↦ rw f ok ]
  sound_next backlog w (Close s) ok = sound_close w s (close_refusal (faces work w) s) ok
  sound_next backlog w (Charge s n) ok = sound_charge w s n (charge_refusal w s n) (charged_runs work w s n) ok

  -- one account of a sound world
  pub sound_at : (w : World W) → AllSound work P w → (i : ℕ) → i < length w.accounts → IsSound work P (account w.accounts i)
  sound_at w ok i lt = AllByRecursion-get (IsSound work P) w.accounts i no_account ok.each lt

  -- all shares of k ticks fit into them
  pub lines_fit : (w : World W) (k : ℕ) → AllSound work P w → sum_by (λ a. k * shares a) w.accounts ≤ k * P
  lines_fit w k ok =
      let e = sum_times shares k w.accounts in
      let f = ok.fits in
      let m = mul-le k (sum_by shares w.accounts) k P (omega arith) f in
      omega arith

  -- after a tick each throttled server waits for a later deadline
  pub all_ahead : (now : ℕ) (accounts : List (Account W)) → AllByRecursion (λ a. IsAhead now (face_of work a)) (map (account_with_replenishment now) accounts)
  all_ahead now [] = tt
  all_ahead now (a ∷ accounts) = (replenished_ahead a.terms.reservation now a.state, all_ahead now accounts)

  -- the chosen server is there, and of the ready servers none has an earlier deadline
  pub record IsLeast (w : World W) (s : ℕ) : Type 0 where
    pub place : s < length w.accounts
    pub least : (r : ℕ) → r < length w.accounts → is_ready (face_of work (account w.accounts r)) ≡ true
        → (account w.accounts s).state.deadline ≤ (account w.accounts r).state.deadline

  -- so it is of the choice
  pub chosen_least : (w : World W) (s : ℕ) → chosen work w ≡ Some s → IsLeast w s
  chosen_least w s e =
      let fs = faces work w in
      let rs = ranks fs in
      let h : IsEarliest rs (length rs) s = rw e at (choice_is rs) in
      let n : length rs ≡ length w.accounts = length-map fs (λ (f : Face). record { ready = is_ready f; deadline = f.state.deadline })
      ∙ length-map w.accounts (face_of work) in
      let deadline = λ (r : ℕ). rank_deadline fs r ∙ ap (λ (f : Face). f.state.deadline) (account_face work w.accounts r) in
      record {
        place = let l = h.within in omega arith;
        least = λ r lt ready.
            let on : (rank_at rs r).ready ≡ true = rank_ready fs r ∙ ap is_ready (account_face work w.accounts r) ∙ ready in
            let d = before-deadline rs s r (h.first r (omega arith) on) in
            omega (arith, deadline s, deadline r);
      }

  -- what is left of a quiet advance after its first tick is quiet
  pub quiet_more : (w : World W) (n : ℕ) → IsQuiet work w (suc n) → IsQuiet work (tick w) n
  unfolding ticks
  quiet_more w n q = λ m lt. q (suc m) (omega arith)

  -- what is quiet is so if all are let go
  pub quiet_let_go : (w : World W) (n : ℕ) → IsQuiet work w n → IsQuiet work (let_go w) n
  quiet_let_go w n q = λ m lt. let r = q m lt in rw (let_go_ticks work m w, let_go_faces work (ticks m w)) r
