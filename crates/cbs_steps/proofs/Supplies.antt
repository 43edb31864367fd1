-- While a server stays active it gets its budget by its deadline, and one budget more by each period after.
use Rattle.std.proofs.Common.{◌≡◌, ◌≢◌, ℕ, ◌+◌, ◌-◌, ◌*◌, ◌≤◌, ◌<◌, true, false, eqb, List, [], ◌∷◌, ◌++◌, length, arith, inl, inr, sym, subst}
use Rattle.std.proofs.Common.{Option, Some, None}
use Rattle.std.proofs.lemmas.Bool.{cases_Bool, cases_lt}
use Rattle.std.proofs.lemmas.Bool.Decides.{nat_tests}
use Rattle.std.proofs.lemmas.List.{get_or_past}
use Rattle.cbs_job.specs.Work.{Meaning}
use Rattle.cbs_rate.specs.Plan.{all_periods}
use Rattle.cbs_lists.specs.Lists.{changed_at}
use Rattle.cbs_steps.specs.Faces.{is_active, is_ready, submit_refusal}
use Rattle.cbs_steps.specs.Accounts.{Account, face_of, no_account, account_with_job, account_with_unit, account_with_charge, account_with_replenishment, account_with_close, account_let_go, taken}
use Rattle.cbs_steps.specs.History.{World, Setup, History, account, faces, after_submit, next, after}
use Rattle.cbs_steps.specs.Charged.{others_charges, KeepsChargedSupply}
use Rattle.cbs_steps.specs.Quiet.{AdvanceQuietly}
use Rattle.cbs_steps.specs.Supplies.{StaysActive, KeepsSupply}
use Rattle.cbs_steps.specs.declared.error.CoreError.{CoreError}
use Rattle.cbs_steps.specs.declared.step.Step.{Step}
use Rattle.cbs_steps.specs.declared.step.Step.TheVariants.{Submit, Run, Advance, Close, Charge}
use Rattle.cbs_steps.proofs.Covers.{IsCovered, covered_from, covered_paid, covered_taken, covered_unit, covered_replenishment}
use Rattle.cbs_steps.proofs.Histories.{holds_run_step, holds_advance_step, holds_close_step, holds_charge_step}
use Rattle.cbs_steps.proofs.Faces.{runnable}
use Rattle.cbs_steps.proofs.LawfulServers.{IsLawful, lawful_job, lawful_unit, lawful_charge, lawful_let_go, lawful_replenishment, lawful_close, ready_begun}
use Rattle.cbs_lists.proofs.Lists.{changed_here, changed_elsewhere, AllByRecursion-get}
use Rattle.cbs_steps.proofs.OnTime.{IsAdmitted, given, sound_after}
use Rattle.cbs_steps.proofs.OnTimeSteps.{IsSound}
use Rattle.cbs_steps.proofs.Lateness.{due_late, quiet_advances, quiet_front, others_uncharged}
use Rattle.cbs_steps.proofs.Uncharged.{uncharged_after}
use Rattle.cbs_rules.proofs.Paid.{charge_paid}

module _ {W : Type 0} (work : Meaning W) (n b : ℕ) where
  -- until n ticks are taken they are covered by tick b
  pub record IsSupplied (a : Account W) : Type 0 where
    pub lawful : IsLawful work a
    pub pending : taken a < n → IsCovered a.terms.reservation n b (taken a) a.state

  -- a unit keeps it
  supplied_unit : (a : Account W) → is_ready (face_of work a) ≡ true → IsSupplied a → IsSupplied (account_with_unit a)
  supplied_unit a ready h = record {
    lawful = lawful_unit work a ready h.lawful;
    pending = λ owes.
        let e : taken (account_with_unit a) ≡ taken a + 1 = omega arith in
        rw e (covered_unit a.terms.reservation n b (taken a) a.state a.terms.mode h.lawful.rate h.lawful.state
        (runnable (face_of work a) ready).free (ready_begun work a ready h.lawful) (omega arith) (h.pending (omega arith)));
  }

  -- so does a charge
  supplied_charge : (m : ℕ) (a : Account W) → a.runs ≡ true → IsSupplied a → IsSupplied (account_with_charge m a)
  supplied_charge m a runs h =
      let r = a.terms.reservation in
      let law = h.lawful in
      let is = lawful_charge work m a runs law in
      let e : taken (account_with_charge m a) ≡ taken a + m = omega arith in
      record {
        lawful = is;
        pending = λ owes. rw e (covered_paid r n b (taken a) m a.state (account_with_charge m a).state law.rate.some is.state (omega arith)
            (charge_paid a.terms.mode r m a.state law.rate.some law.state law.free) (h.pending (omega arith)));
      }

  -- so does it that the server is let go
  supplied_let_go : (a : Account W) → IsSupplied a → IsSupplied (account_let_go a)
  supplied_let_go a h = record { lawful = lawful_let_go work a h.lawful; pending = h.pending }

  -- so does a replenishment
  supplied_replenishment : (now : ℕ) (a : Account W) → IsSupplied a → IsSupplied (account_with_replenishment now a)
  supplied_replenishment now a h = record {
    lawful = lawful_replenishment work now a h.lawful;
    pending = λ owes. covered_replenishment a.terms.reservation n b (taken a) a.state now h.lawful.state (h.pending owes);
  }

  -- and a close
  supplied_close : (a : Account W) → IsSupplied a → IsSupplied (account_with_close a)
  supplied_close a h = record { lawful = lawful_close work a h.lawful; pending = h.pending }

  -- a job that comes in while the server is active leaves its state
  supplied_job : (now : ℕ) (job : W) (a : Account W) → is_active (face_of work a) ≡ true → IsSupplied a → IsSupplied (account_with_job work now job a)
  supplied_job now job a active h = record {
    lawful = lawful_job work now job a h.lawful;
    pending = λ owes. let same : (account_with_job work now job a).state ≡ a.state = rw active in rw same (h.pending owes);
  }

  module _ (s : ℕ) where
    -- a submit, to this server or another
    supplied_submit : (w : World W) (t : ℕ) (job : W) (o : Option CoreError) → s < length w.accounts
        → is_active (face_of work (account w.accounts s)) ≡ true → IsSupplied (account w.accounts s)
        → IsSupplied (account (after_submit work w t job o).accounts s)
    supplied_submit w t job (Some e) lt active h = h
    supplied_submit w t job None lt active h = elim (cases_Bool (eqb t s)) [
      | inl y ↦
          let same : t ≡ s = grind (arith, nat_tests) in
          let here : account (changed_at (account_with_job work w.now job) w.accounts s) s
          ≡ account_with_job work w.now job (account w.accounts s) = changed_here (account_with_job work w.now job) w.accounts s no_account lt in
          let is : IsSupplied (account (changed_at (account_with_job work w.now job) w.accounts s) s) =
          rw here (supplied_job w.now job (account w.accounts s) active h) in
          rw same is
      | inr f ↦
          let other : s ≢ t = λ e. let y : eqb t s ≡ true = grind (arith, nat_tests) in cc in
          rw (changed_elsewhere (account_with_job work w.now job) w.accounts t s no_account other) h
    ]

    -- a charge, of this server or another
    pub supplied_charging : (backlog : ℕ) (w : World W) (t m : ℕ) → IsSupplied (account w.accounts s) → IsSupplied (account (next work backlog w (Charge t m)).accounts s)
    supplied_charging backlog w t m h = holds_charge_step work (λ now. IsSupplied) (λ now. supplied_unit)
        (λ now. supplied_replenishment (now + 1)) (λ now. supplied_close) (λ now. supplied_let_go) (λ now m a some runs k. supplied_charge m a runs k) backlog w t m s h

    -- each step keeps it, while the server is active
    pub supplied_next : (backlog : ℕ) (w : World W) (x : Step W) → s < length w.accounts → is_active (face_of work (account w.accounts s)) ≡ true
        → IsSupplied (account w.accounts s) → IsSupplied (account (next work backlog w x).accounts s)
    supplied_next backlog w (Submit t job) lt active h = supplied_submit w t job (submit_refusal backlog (faces work w) t) lt active h
    supplied_next backlog w Run lt active h = holds_run_step work (λ now. IsSupplied) (λ now. supplied_unit)
        (λ now. supplied_replenishment (now + 1)) (λ now. supplied_close) (λ now. supplied_let_go) backlog w s h
    supplied_next backlog w (Advance m) lt active h = holds_advance_step work (λ now. IsSupplied) (λ now. supplied_unit)
        (λ now. supplied_replenishment (now + 1)) (λ now. supplied_close) (λ now. supplied_let_go) backlog w m s h
    supplied_next backlog w (Close t) lt active h = holds_close_step work (λ now. IsSupplied) (λ now. supplied_unit)
        (λ now. supplied_replenishment (now + 1)) (λ now. supplied_close) (λ now. supplied_let_go) backlog w t s h
    supplied_next backlog w (Charge t m) lt active h = supplied_charging backlog w t m h

    -- the server is active at last
    active_last : (setup : Setup) (K M : List (Step W)) → StaysActive work setup s M K
        → is_active (face_of work (account (after work setup (K ++ M)).accounts s)) ≡ true
    active_last setup [] M busy = busy
    active_last setup (x ∷ K) M busy = busy.1

    -- and was at first
    active_first : (setup : Setup) (K M : List (Step W)) → StaysActive work setup s M K
        → is_active (face_of work (account (after work setup M).accounts s)) ≡ true
    active_first setup [] M busy = busy
    active_first setup (x ∷ K) M busy = active_first setup K M busy.0

    -- so it is there
    active_there : (accounts : List (Account W)) → is_active (face_of work (account accounts s)) ≡ true → s < length accounts
    active_there accounts active = elim (cases_lt s (length accounts)) [
      | inl lt ↦ lt
      | inr ge ↦ let none : account accounts s ≡ no_account = get_or_past accounts s no_account ge in let off : false ≡ true = rw none at active in cc
    ]

    -- so do the steps after M
    supplied_after : (setup : Setup) (K M : List (Step W)) → StaysActive work setup s M K → IsSupplied (account (after work setup M).accounts s)
        → IsSupplied (account (after work setup (K ++ M)).accounts s)
    supplied_after setup [] M busy h = h
    supplied_after setup (x ∷ K) M busy h =
        let active = active_last setup K M busy.0 in
        supplied_next setup.backlog (after work setup (K ++ M)) x (active_there (after work setup (K ++ M)).accounts active) active
        (supplied_after setup K M busy.0 h)

module _ {W : Type 0} (work : Meaning W) where
  -- after M, while the server stays active through K
  supply : (setup : Setup) (K M : List (Step W)) (s j : ℕ) → IsAdmitted (given work setup) → AdvanceQuietly work setup (K ++ M) → StaysActive work setup s M K
      → (let a = account (after work setup M).accounts s in
      let v = after work setup (K ++ M) in
      a.state.deadline + j * a.terms.reservation.period + others_charges v.accounts s ≤ v.now → taken a + a.state.budget
      + j * a.terms.reservation.budget ≤ taken (account v.accounts s) + a.state.overrun)
  supply setup K M s j ok quiet busy late =
      let w = after work setup M in
      let a = account w.accounts s in
      let n = taken a + a.state.budget + j * a.terms.reservation.budget - a.state.overrun in
      let b = a.state.deadline + j * a.terms.reservation.period in
      let there = active_there work n b s w.accounts (active_first work n b s setup K M busy) in
      let law = (AllByRecursion-get (IsSound work (all_periods (given work setup))) w.accounts s no_account (sound_after work setup M ok).each there).lawful in
      elim (cases_lt (taken a + a.state.budget + j * a.terms.reservation.budget) a.state.overrun) [
        | inl few ↦ omega arith
        | inr enough ↦
            let h = supplied_after work n b s setup K M busy (record
            { lawful = law; pending = λ owes. covered_from a.terms.reservation n j (taken a) a.state law.state (omega arith) }) in
            let active = active_last work n b s setup K M busy in
            let v = after work setup (K ++ M) in
            let c = account v.accounts s in
            let soon = due_late work setup (K ++ M) ok quiet s (active_there work n b s v.accounts active) active in
            elim (cases_lt (taken c) n) [
              | inl owes ↦
                  let all = covered_taken c.terms.reservation n b (taken c) v.now (others_charges v.accounts s) c.state h.lawful.state (h.pending owes) soon late in
                  omega arith
              | inr done ↦ omega arith
            ]
      ]

  -- every history keeps its supplies, with what is charged counted
  pub charged_supply_kept : (N : History W) → IsAdmitted (given work N.setup) → KeepsChargedSupply work N
  charged_supply_kept N ok = λ quiet K M s j e busy.
      subst (λ L. AdvanceQuietly work N.setup L → (let a = account (after work N.setup M).accounts s in
      let v = after work N.setup L in
      a.state.deadline + j * a.terms.reservation.period + others_charges v.accounts s ≤ v.now → taken a + a.state.budget
      + j * a.terms.reservation.budget ≤ taken (account v.accounts s) + a.state.overrun))
      (sym e) (λ quiet late. supply N.setup K M s j ok quiet busy late) quiet

  -- so it keeps those of lists without charges
  pub supply_kept : (N : History W) → IsAdmitted (given work N.setup) → KeepsSupply work N
  supply_kept N ok = λ quiet K M s j e busy late.
      let a = uncharged_after work N.setup M s (quiet_front work N.setup K M (rw e at quiet)) in
      let c = uncharged_after work N.setup N.steps s quiet in
      let o = others_uncharged work N.setup N.steps s quiet in
      let f = a.total in
      let g = a.overrun in
      let h = c.total in
      let k = charged_supply_kept N ok (quiet_advances work N.setup N.steps quiet) K M s j e busy (omega arith) in
      omega arith
