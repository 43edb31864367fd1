-- Each job is finished when it is due.
use Rattle.std.proofs.Common.{◌≡◌, ℕ, zero, suc, ◌+◌, ◌-◌, ◌*◌, ◌≤◌, ◌<◌, true, false, eqb, ◌||◌, List, [], ◌∷◌, ◌++◌, length, map, arith, refl, inl, inr, ap, sym, subst, ◌∙◌, Option, Some, None}
use Rattle.std.specs.Prelude.{max, if◌then◌else◌}
use Rattle.std.specs.Int.{div_ceil}
use Rattle.std.specs.List.{sum_by}
use Rattle.std.proofs.lemmas.Bool.{cases_Bool, cases_lt}
use Rattle.std.proofs.lemmas.Bool.Decides.{nat_tests}
use Rattle.std.proofs.lemmas.Grind.{div_ceil_times}
use Rattle.std.proofs.lemmas.List.Sums.{sum_by-append}
use Rattle.cbs_job.specs.Work.{Meaning}
use Rattle.cbs_rate.specs.Plan.{all_periods}
use Rattle.cbs_lists.specs.Lists.{changed_at}
use Rattle.cbs_steps.specs.Faces.{is_active, is_ready, submit_refusal}
use Rattle.cbs_rules.specs.Rules.{Terms}
use Rattle.cbs_steps.specs.Accounts.{Account, face_of, new_account, no_account, account_with_job, account_with_unit, account_with_charge, account_with_replenishment, account_let_go, taken}
use Rattle.cbs_steps.specs.Accounts.{account_with_close}
use Rattle.cbs_steps.specs.History.{World, Setup, History, account, faces, start, ticks, after_submit, after_charging, charge_refusal, next, after, world_after}
use Rattle.cbs_steps.specs.Charged.{Due, due_tick, due_of_submit, due_of_charge, due_after, charged_due, others_charges, KeepsChargedDue, KeepsChargedDueEnd}
use Rattle.cbs_steps.specs.Promises.{due, due_submitted, KeepsDue}
use Rattle.cbs_steps.specs.Quiet.{AreQuiet, AdvanceQuietly}
use Rattle.cbs_steps.specs.declared.error.CoreError.{CoreError}
use Rattle.cbs_steps.specs.declared.step.Step.{Step}
use Rattle.cbs_steps.specs.declared.step.Step.TheVariants.{Submit, Run, Advance, Close, Charge}
use Rattle.cbs_steps.proofs.Covers.{IsCovered, covered_from, covered_paid, covered_more, covered_unit, covered_replenishment, covered_queued, covered_arrival, covered-less}
use Rattle.cbs_steps.proofs.Ends.{ended, end_steps, ran_of}
use Rattle.cbs_steps.proofs.Faces.{runnable}
use Rattle.cbs_steps.proofs.Histories.{holds_ticks, holds_run_step, holds_advance_step, holds_close_step, charged_runs, terms_behind}
use Rattle.cbs_steps.proofs.Lateness.{quiet_advances, quiet_front, others_uncharged}
use Rattle.cbs_steps.proofs.Uncharged.{uncharged_after}
use Rattle.cbs_rate.specs.Rate.{Rate, IsRate}
use Rattle.std.proofs.lemmas.Nat.{mul-le}
use Rattle.cbs_rules.proofs.Paid.{charge_paid}
use Rattle.cbs_steps.proofs.LawfulServers.{IsLawful, lawful_job, lawful_unit, lawful_charge, lawful_let_go, lawful_replenishment, lawful_close, ready_begun}
use Rattle.cbs_lists.proofs.Lists.{changed_here, changed_elsewhere, AllByRecursion-get}
use Rattle.cbs_steps.proofs.OnTime.{IsAdmitted, given, sound_start}
use Rattle.cbs_steps.proofs.OnTimeSteps.{IsSound}
use Rattle.cbs_steps.proofs.Promises.{all, active_owed, idle_owed, count_after, place, submitted, covered_finished, IsGrowing}

module _ {W : Type 0} (work : Meaning W) where
  -- All that a server was asked for, and all that it was charged, is covered by when its last job is due
  record IsKept (d : Due) (a : Account W) : Type 0 where
    lawful : IsLawful work a
    paid : a.got ≤ all work a
    before : ℕ
    sum : before + d.units ≡ all work a + a.charges.total
    covered : IsCovered a.terms.reservation (before + div_ceil d.units a.terms.reservation.budget * a.terms.reservation.budget)
        (due_tick a.terms.reservation d) (taken a) a.state

  -- a unit keeps it
  kept_unit : (d : Due) (a : Account W) → is_ready (face_of work a) ≡ true → IsKept d a → IsKept d (account_with_unit a)
  kept_unit d a ready k =
      let r = a.terms.reservation in
      let active = (runnable (face_of work a) ready).active in
      let owed = active_owed work a (grind (arith, nat_tests)) in
      let up = (div_ceil_times d.units r.budget k.lawful.rate.some).0 in
      let e : taken (account_with_unit a) ≡ taken a + 1 = omega arith in
      let s = k.sum in
      record {
        lawful = lawful_unit work a ready k.lawful;
        paid = omega arith;
        before = k.before;
        sum = k.sum;
        covered = rw e (covered_unit r (k.before + div_ceil d.units r.budget * r.budget) (due_tick r d) (taken a) a.state a.terms.mode k.lawful.rate k.lawful.state
            (runnable (face_of work a) ready).free (ready_begun work a ready k.lawful) (omega arith) k.covered);
      }

  -- so does a replenishment
  kept_replenishment : (d : Due) (now : ℕ) (a : Account W) → IsKept d a → IsKept d (account_with_replenishment now a)
  kept_replenishment d now a k = record {
    lawful = lawful_replenishment work now a k.lawful;
    paid = k.paid;
    before = k.before;
    sum = k.sum;
    covered = covered_replenishment a.terms.reservation (k.before + div_ceil d.units a.terms.reservation.budget * a.terms.reservation.budget)
        (due_tick a.terms.reservation d) (taken a) a.state now k.lawful.state k.covered;
  }

  -- and a close
  kept_close : (d : Due) (a : Account W) → IsKept d a → IsKept d (account_with_close a)
  kept_close d a k = record { lawful = lawful_close work a k.lawful; paid = k.paid; before = k.before; sum = k.sum; covered = k.covered }

  -- and that the server is let go
  kept_let_go : (d : Due) (a : Account W) → IsKept d a → IsKept d (account_let_go a)
  kept_let_go d a k = record { lawful = lawful_let_go work a k.lawful; paid = k.paid; before = k.before; sum = k.sum; covered = k.covered }

  -- a charge of n ticks counts as so many units of the last job
  kept_charge : (d : Due) (n : ℕ) (a : Account W) → a.runs ≡ true → IsKept d a → IsKept (record d { units = d.units + n }) (account_with_charge n a)
  kept_charge d n a runs k =
      let r = a.terms.reservation in
      let law = k.lawful in
      let is = lawful_charge work n a runs law in
      let more = covered_more r k.before d.from (taken a) d.units (d.units + n) a.state law.rate.some (omega arith) k.covered in
      let up = (div_ceil_times (d.units + n) r.budget law.rate.some).0 in
      let e : taken (account_with_charge n a) ≡ taken a + n = omega arith in
      let s = k.sum in
      let p = k.paid in
      record {
        lawful = is;
        paid = k.paid;
        before = k.before;
        sum = omega arith;
        covered = rw e (covered_paid r (k.before + div_ceil (d.units + n) r.budget * r.budget) (d.from + div_ceil (d.units + n) r.budget * r.period) (taken a) n a.state
            (account_with_charge n a).state law.rate.some is.state (omega arith) (charge_paid a.terms.mode r n a.state law.rate.some law.state law.free) more);
      }

  -- a job more is covered by as many periods later
  covered_job : (d : Due) (now : ℕ) (job : W) (a : Account W) → IsKept d a
      → (let r = a.terms.reservation in
      let m = div_ceil (work.left job) r.budget in
      IsCovered r (all work a + a.charges.total + m * r.budget) (max (due_tick r d) now + m * r.period) (taken a) (account_with_job work now job a).state)
  covered_job d now job a k =
      let r = a.terms.reservation in
      let m = div_ceil (work.left job) r.budget in
      let n = k.before + div_ceil d.units r.budget * r.budget in
      let all' = all work a + a.charges.total in
      let up = (div_ceil_times d.units r.budget k.lawful.rate.some).0 in
      let s = k.sum in
      let c = covered-less r n (due_tick r d) (taken a) a.state all' (omega arith) k.covered in
      elim (cases_Bool (is_active (face_of work a) || a.state.throttled)) [
        | inl t ↦ rw t (covered_queued r all' (due_tick r d) (taken a) a.state now m c)
        | inr f ↦
            let idle : is_active (face_of work a) ≡ false = grind (arith, nat_tests) in
            let paid = idle_owed work a idle k.paid in
            rw f (covered_arrival r all' (due_tick r d) (taken a) a.state a.terms.mode now m (grind (arith, nat_tests)) (omega arith) c)
      ]

  -- so it is kept, for a later tick
  kept_job : (d : Due) (now : ℕ) (job : W) (a : Account W) → IsKept d a
      → IsKept (record { from = max (due_tick a.terms.reservation d) now; units = work.left job }) (account_with_job work now job a)
  kept_job d now job a k =
      let more : all work (account_with_job work now job a) ≡ all work a + work.left job = omega (arith, sum_by-append work.left a.accepted (job ∷ [])) in
      let p = k.paid in
      record {
        lawful = lawful_job work now job a k.lawful;
        paid = omega arith;
        before = all work a + a.charges.total;
        sum = omega arith;
        covered = covered_job d now job a k;
      }

  module _ (s : ℕ) where
    -- a submit, to this server or another
    kept_submit : (d : Due) (w : World W) (t : ℕ) (job : W) (o : Option CoreError) → s < length w.accounts → IsKept d (account w.accounts s)
        → IsKept (if eqb t s then due_of_submit (account w.accounts t).terms.reservation d w.now (work.left job) o else d)
        (account (after_submit work w t job o).accounts s)
    kept_submit d w t job (Some e) lt k = elim (cases_Bool (eqb t s)) [ inl y ↦ rw y k | inr n ↦ rw n k ]
    kept_submit d w t job None lt k = elim (cases_Bool (eqb t s)) [
      | inl y ↦
          let same : t ≡ s = grind (arith, nat_tests) in
          let here : account (changed_at (account_with_job work w.now job) w.accounts s) s
          ≡ account_with_job work w.now job (account w.accounts s) = changed_here (account_with_job work w.now job) w.accounts s no_account lt in
          let is : IsKept (due_of_submit (account w.accounts s).terms.reservation d w.now (work.left job) None)
          (account (changed_at (account_with_job work w.now job) w.accounts s) s) = rw here (kept_job d w.now job (account w.accounts s) k) in
          let goal : IsKept (due_of_submit (account w.accounts t).terms.reservation d w.now (work.left job) None)
          (account (changed_at (account_with_job work w.now job) w.accounts t) s) = rw same is in
          rw y goal
      | inr n ↦
          let there : account (changed_at (account_with_job work w.now job) w.accounts t) s ≡ account w.accounts s =
          changed_elsewhere (account_with_job work w.now job) w.accounts t s no_account (λ e. let y : eqb t s ≡ true = grind (arith, nat_tests) in cc) in
          let goal : IsKept d (account (changed_at (account_with_job work w.now job) w.accounts t) s) = rw there k in
          rw n goal
    ]

    -- n ticks keep it
    kept_ticks : (d : Due) (n : ℕ) (w : World W) → IsKept d (account w.accounts s) → IsKept d (account (ticks n w).accounts s)
    kept_ticks d n w k = holds_ticks work (λ now. IsKept d) (λ now. kept_unit d) (λ now. kept_replenishment d (now + 1)) (λ now. kept_close d)
        (λ now. kept_let_go d) n w s k

    -- a charge, of this server or another
    kept_charged : (d : Due) (w : World W) (t n : ℕ) (o : Option CoreError) → s < length w.accounts → (o ≡ None → (account w.accounts t).runs ≡ true)
        → IsKept d (account w.accounts s) → IsKept (if eqb t s then due_of_charge d n o else d) (account (after_charging w t n o).accounts s)
    kept_charged d w t zero (Some e) lt runs k = elim (cases_Bool (eqb t s)) [ inl y ↦ rw y k | inr n ↦ rw n k ]
    kept_charged d w t (suc n) (Some e) lt runs k = elim (cases_Bool (eqb t s)) [ inl y ↦ rw y k | inr n ↦ rw n k ]
    kept_charged d w t zero None lt runs k =
        let z : d.units + 0 ≡ d.units = omega arith in
        elim (cases_Bool (eqb t s)) [ inl y ↦ rw (y, z) k | inr n ↦ rw n k ]
    kept_charged d w t (suc n) None lt runs k = elim (cases_Bool (eqb t s)) [
      | inl y ↦
          let same : t ≡ s = grind (arith, nat_tests) in
          let f = account_with_charge (suc n) in
          let here : account (changed_at f w.accounts s) s ≡ f (account w.accounts s) = changed_here f w.accounts s no_account lt in
          let is : IsKept (record d { units = d.units + suc n }) (account (changed_at f w.accounts s) s) =
          rw here (kept_charge d (suc n) (account w.accounts s) (rw same at (runs refl)) k) in
          let all : IsKept (record d { units = d.units + suc n }) (account (changed_at f w.accounts t) s) = rw same is in
          rw y (kept_ticks (record d { units = d.units + suc n }) (suc n) (record w { accounts = changed_at f w.accounts t }) all)
      | inr m ↦
          let f = account_with_charge (suc n) in
          let there : account (changed_at f w.accounts t) s ≡ account w.accounts s =
          changed_elsewhere f w.accounts t s no_account (λ e. let y : eqb t s ≡ true = grind (arith, nat_tests) in cc) in
          let is : IsKept d (account (changed_at f w.accounts t) s) = rw there k in
          rw m (kept_ticks d (suc n) (record w { accounts = changed_at f w.accounts t }) is)
    ]

    -- each step, by when the last job is then due
    kept_next : (backlog : ℕ) (d : Due) (w : World W) (x : Step W) → s < length w.accounts → IsKept d (account w.accounts s)
        → IsKept (due_after work backlog w s d x) (account (next work backlog w x).accounts s)
    kept_next backlog d w (Submit t job) lt k = kept_submit d w t job (submit_refusal backlog (faces work w) t) lt k
    kept_next backlog d w Run lt k = holds_run_step work (λ now. IsKept d) (λ now. kept_unit d) (λ now. kept_replenishment d (now + 1))
        (λ now. kept_close d) (λ now. kept_let_go d) backlog w s k
    kept_next backlog d w (Advance n) lt k = holds_advance_step work (λ now. IsKept d) (λ now. kept_unit d)
        (λ now. kept_replenishment d (now + 1)) (λ now. kept_close d) (λ now. kept_let_go d) backlog w n s k
    kept_next backlog d w (Close t) lt k = holds_close_step work (λ now. IsKept d) (λ now. kept_unit d)
        (λ now. kept_replenishment d (now + 1)) (λ now. kept_close d) (λ now. kept_let_go d) backlog w t s k
    kept_next backlog d w (Charge t n) lt k = kept_charged d w t n (charge_refusal w t n) lt (charged_runs work w t n) k

    -- at the start nothing is owed
    kept_new : (a : Account W) → IsLawful work a → a.accepted ≡ [] → a.got ≡ 0 → a.state.deadline ≡ 0 → a.charges.total ≡ 0 → IsKept (record { from = 0; units = 0 }) a
    kept_new a law none got deadline total =
        let r = a.terms.reservation in
        let free = law.state.unmarked deadline in
        let clear = law.state.clear free in
        let c = covered_from r 0 0 (taken a) a.state law.state (omega arith) in
        let u = c.units in
        let d = c.by in
        let zero_covered : IsCovered r 0 0 (taken a) a.state = record { periods = c.periods; units = omega arith; by = omega arith } in
        let all_none : all work a ≡ 0 = rw none refl in
        record {
          lawful = law;
          paid = omega arith;
          before = 0;
          sum = omega arith;
          covered = covered_queued r 0 0 (taken a) a.state 0 (div_ceil 0 r.budget) zero_covered;
        }

    -- a new account, wherever it stands
    record IsFresh (a : Account W) : Type 0 where
      none : a.accepted ≡ []
      got : a.got ≡ 0
      deadline : a.state.deadline ≡ 0
      total : a.charges.total ≡ 0

    -- each server is new at the start
    fresh : (ts : List Terms) (i : ℕ) → IsFresh (account (map new_account ts) i)
    fresh [] i = record { none = refl; got = refl; deadline = refl; total = refl }
    fresh (t ∷ ts) zero = record { none = refl; got = refl; deadline = refl; total = refl }
    fresh (t ∷ ts) (suc i) = fresh ts i

    -- after a list of steps all is covered by when the last job is due
    kept_after : (setup : Setup) (M : List (Step W)) → IsAdmitted (given work setup) → s < length (start {W = W} setup).accounts
        → IsKept (charged_due work setup s M) (account (after work setup M).accounts s)
    kept_after setup [] ok lt =
        let law = (AllByRecursion-get (IsSound work (all_periods (given work setup))) (start setup).accounts s no_account
        (sound_start work setup ok).each lt).lawful in
        let f = fresh setup.servers s in
        kept_new (account (start setup).accounts s) law f.none f.got f.deadline f.total
    kept_after setup (x ∷ M) ok lt = kept_next setup.backlog (charged_due work setup s M) (after work setup M) x
        (let n = count_after work setup M in let m = count_after work setup [] in omega arith) (kept_after setup M ok lt)

  -- a server keeps the terms that it was given
  terms_after : (setup : Setup) (M : List (Step W)) (s : ℕ) → (account (after work setup M).accounts s).terms ≡ (account (start {W = W} setup).accounts s).terms
  terms_after setup [] s = refl
  terms_after setup (x ∷ M) s = terms_behind work setup (x ∷ []) M s ∙ terms_after setup M s

  -- what is covered of a job, with so many ticks charged to its server in all since: it grows with them
  growing : (before_jobs : List W) (job : W) (before from base : ℕ) → before ≡ sum_by work.left before_jobs + base
      → IsGrowing work before_jobs job (λ r t. before + div_ceil (work.left job + (t - base)) r.budget * r.budget) (λ r t. from + div_ceil (work.left job + (t - base)) r.budget * r.period)
  growing before_jobs job before from base e = record {
    under = λ r t m got some owes lt. let up = (div_ceil_times (work.left job + (t - base)) r.budget some).0 in omega arith;
    grow = λ r t m g s some c. covered_more r before from g (work.left job + (t - base)) (work.left job + (t + m - base)) s some (omega arith) c;
  }

  -- a job that comes counts from when the job before it is due, and from the clock
  due_of_new : (setup : Setup) (M : List (Step W)) (s : ℕ) (job : W) → submit_refusal setup.backlog (faces work (after work setup M)) s ≡ None
      → (let w = after work setup M in
      charged_due work setup s (Submit s job ∷ M)
      ≡ record { from = max (due_tick (account w.accounts s).terms.reservation (charged_due work setup s M)) w.now; units = work.left job })
  due_of_new setup M s job accepted = let itself : eqb s s ≡ true = grind (arith, nat_tests) in rw (itself, accepted) refl

  -- every history keeps its due ticks, with what is charged counted
  pub charged_due_kept : (N : History W) → IsAdmitted (given work N.setup) → KeepsChargedDue work N
  charged_due_kept N ok = λ quiet K M s job of past.
      let setup = N.setup in
      let w = after work setup M in
      let a = account w.accounts s in
      let c = account_with_job work w.now job a in
      let r = a.terms.reservation in
      let n = count_after work setup M in
      let m = count_after work setup [] in
      let lt = place work setup M s job of.accepted in
      let kept = kept_after s setup M ok (omega arith) in
      let d = charged_due work setup s M in
      let from = max (due_tick r d) w.now in
      let before = all work a + a.charges.total in
      let base = a.charges.total in
      let due = due_of_new setup M s job of.accepted in
      let e = submitted work setup M s job of.accepted in
      let z : work.left job + (base - base) ≡ work.left job = omega arith in
      let b = account (world_after work N).accounts s in
      let same : b.terms ≡ a.terms = let t = subst (λ L. (account (after work setup L).accounts s).terms ≡ (account (after work setup (Submit s job ∷ M)).accounts s).terms) (sym of.steps)
      (terms_behind work setup K (Submit s job ∷ M) s) in t ∙ terms_behind work setup (Submit s job ∷ []) M s in
      let late : from + div_ceil (work.left job + (b.charges.total - base)) r.budget * r.period + others_charges (world_after work N).accounts s ≤ (world_after work N).now =
      rw (e, due) at past in
      let up = (div_ceil_times (work.left job + (b.charges.total - base)) r.budget kept.lawful.rate.some).0 in
      covered_finished work setup M s job of.accepted (λ r t. before + div_ceil (work.left job + (t - base)) r.budget * r.budget)
      (λ r t. from + div_ceil (work.left job + (t - base)) r.budget * r.period) (growing a.accepted job before from base refl) N.steps K of.steps ok quiet
      (rw z (covered_job d w.now job a kept)) (rw same late) (λ owes. rw same (omega arith))

  -- and every job ends by them
  pub charged_due_end_kept : (N : History W) → IsAdmitted (given work N.setup) → KeepsChargedDueEnd work N
  charged_due_end_kept N ok = λ quiet C K M s job of.
      let setup = N.setup in
      let accepted = of.job_of.accepted in
      let w = after work setup M in
      let a = account w.accounts s in
      let r = a.terms.reservation in
      let n = count_after work setup M in
      let m = count_after work setup [] in
      let lt = place work setup M s job accepted in
      let kept = kept_after s setup M ok (omega arith) in
      let d = charged_due work setup s M in
      let from = max (due_tick r d) w.now in
      let before = all work a + a.charges.total in
      let base = a.charges.total in
      let due = due_of_new setup M s job accepted in
      let e = submitted work setup M s job accepted in
      let z : work.left job + (base - base) ≡ work.left job = omega arith in
      let steps = end_steps work N C K M s job of in
      let L = C ++ Run ∷ (K ++ Submit s job ∷ M) in
      let b = account (after work setup L).accounts s in
      let same : b.terms ≡ a.terms = terms_behind work setup C (Run ∷ (K ++ Submit s job ∷ M)) s ∙ terms_behind work setup (Run ∷ K) (Submit s job ∷ M) s
      ∙ terms_behind work setup (Submit s job ∷ []) M s in
      let up = (div_ceil_times (work.left job + (b.charges.total - base)) r.budget kept.lawful.rate.some).0 in
      let by = ended work setup M s job accepted (λ r t. before + div_ceil (work.left job + (t - base)) r.budget * r.budget)
      (λ r t. from + div_ceil (work.left job + (t - base)) r.budget * r.period) (growing a.accepted job before from base refl) C K of.result ok
      (subst (λ L. AdvanceQuietly work setup L) steps quiet) of.charges (ap ran_of of.done) (rw z (covered_job d w.now job a kept)) (rw same (omega arith)) in
      rw (steps, e, due) (rw same at by)

  -- if nothing is charged, a job is due when it is without charges
  module _ (setup : Setup) (s : ℕ) where
    -- no units need no budget
    none_due : (r : Rate) → 0 < r.budget → due_tick r (record { from = 0; units = 0 }) ≡ 0
    none_due r some =
        let c = (div_ceil_times 0 r.budget some).1 in
        let z : div_ceil 0 r.budget ≡ 0 = elim (cases_lt 0 (div_ceil 0 r.budget)) [
          | inl lt ↦ let m = mul-le 1 r.budget (div_ceil 0 r.budget) r.budget (omega arith) (omega arith) in absurd (omega arith)
          | inr ge ↦ omega arith
        ] in
        rw z (omega arith)

    submit_same : (r : Rate) (d : Due) (before now units : ℕ) (o : Option CoreError) → due_tick r d ≡ before
        → due_tick r (due_of_submit r d now units o) ≡ due_submitted r before now units o
    submit_same r d before now units None e = rw e refl
    submit_same r d before now units (Some e') e = e

    charge_same : (r : Rate) (d : Due) (before n : ℕ) (o : Option CoreError) → (o ≡ None → n ≡ 0) → due_tick r d ≡ before
        → due_tick r (due_of_charge d n o) ≡ before
    charge_same r d before n None q e = let n_none = q refl in let z : d.units + n ≡ d.units = omega arith in rw z e
    charge_same r d before n (Some e') q e = e

    due_same : (M : List (Step W)) → IsRate (account (start {W = W} setup).accounts s).terms.reservation.budget (account (start {W = W} setup).accounts s).terms.reservation.period
        → AreQuiet work setup M → due_tick (account (start {W = W} setup).accounts s).terms.reservation (charged_due work setup s M) ≡ due work setup s M
    due_same [] ok quiet = none_due (account (start {W = W} setup).accounts s).terms.reservation ok.some
    due_same (Submit t job ∷ M) ok quiet =
        let r = (account (start {W = W} setup).accounts s).terms.reservation in
        let h = due_same M ok quiet.0 in
        let w = after work setup M in
        elim (cases_Bool (eqb t s)) [
          | inl y ↦
              let same : t ≡ s = grind (arith, nat_tests) in
              let rate : (account w.accounts t).terms.reservation ≡ r = rw same (ap (λ (v : Terms). v.reservation) (terms_after setup M s)) in
              let goal : due_tick r (due_of_submit r (charged_due work setup s M) w.now (work.left job) (submit_refusal setup.backlog (faces work w) t))
              ≡ due_submitted r (due work setup s M) w.now (work.left job) (submit_refusal setup.backlog (faces work w) t) =
              submit_same r (charged_due work setup s M) (due work setup s M) w.now (work.left job) (submit_refusal setup.backlog (faces work w) t) h in
              rw (y, rate) goal
          | inr n ↦ rw n h
        ]
    due_same (Run ∷ M) ok quiet = due_same M ok quiet.0
    due_same (Advance n ∷ M) ok quiet = due_same M ok quiet.0
    due_same (Close t ∷ M) ok quiet = due_same M ok quiet.0
    due_same (Charge t n ∷ M) ok quiet =
        let r = (account (start {W = W} setup).accounts s).terms.reservation in
        let h = due_same M ok quiet.0 in
        elim (cases_Bool (eqb t s)) [
          | inl y ↦ rw y (charge_same r (charged_due work setup s M) (due work setup s M) n (charge_refusal (after work setup M) t n) quiet.1 h)
          | inr m ↦ rw m h
        ]

  -- so every history keeps those of lists without charges
  pub due_kept : (N : History W) → IsAdmitted (given work N.setup) → KeepsDue work N
  due_kept N ok = λ quiet K M s job of late.
      let setup = N.setup in
      let L = Submit s job ∷ M in
      let before = quiet_front work setup K L (rw of.steps at quiet) in
      let a = uncharged_after work setup L s before in
      let c = uncharged_after work setup N.steps s quiet in
      let o = others_uncharged work setup N.steps s quiet in
      let f = a.total in
      let h = c.total in
      let n = count_after work setup M in
      let m = count_after work setup [] in
      let lt = place work setup M s job of.accepted in
      let law = (AllByRecursion-get (IsSound work (all_periods (given work setup))) (start setup).accounts s no_account (sound_start work setup ok).each (omega arith)).lawful in
      let e = due_same setup s L law.rate before in
      let rate = ap (λ (v : Terms). v.reservation) (terms_after setup L s) in
      let d = charged_due work setup s L in
      let none : d.units + ((account (after work setup N.steps).accounts s).charges.total - (account (after work setup L).accounts s).charges.total) ≡ d.units = omega arith in
      charged_due_kept N ok (quiet_advances work setup N.steps quiet) K M s job of (rw (none, rate) (omega arith))
