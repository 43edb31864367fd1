-- If each unit is charged before the next job comes, a job takes no more than its units and what each may be charged.
use Rattle.std.proofs.Common.{◌≡◌, ℕ, zero, suc, ◌+◌, ◌-◌, ◌*◌, ◌≤◌, ◌<◌, true, false, eqb, List, [], ◌∷◌, length, arith, refl, sym}
use Rattle.std.proofs.Common.{ap, None, Option, Some}
use Rattle.std.specs.Prelude.{map}
use Rattle.std.proofs.lemmas.Bool.Decides.{nat_tests}
use Rattle.std.proofs.lemmas.Nat.{mul-le}
use Rattle.std.proofs.lemmas.List.{take_all}
use Rattle.cbs_job.specs.Work.{Meaning}
use Rattle.cbs_lists.specs.Lists.{changed_at}
use Rattle.cbs_lists.proofs.Lists.{changed_here}
use Rattle.cbs_rules.specs.Rules.{Terms}
use Rattle.cbs_steps.specs.Accounts.{Account, need, face_of, new_account, no_account, account_with_job, account_with_unit, account_with_charge}
use Rattle.cbs_steps.specs.Accounts.{account_with_replenishment, account_with_close, account_let_go}
use Rattle.cbs_steps.specs.Charged.{Due, charged_due, others_charges, KeepsChargedDue}
use Rattle.cbs_steps.specs.Faces.{is_active}
use Rattle.cbs_steps.specs.History.{World, Setup, History, account, after, after_charging, charge_refusal}
use Rattle.cbs_steps.specs.Promises.{when}
use Rattle.cbs_steps.specs.Quiet.{AdvanceQuietly}
use Rattle.cbs_steps.specs.declared.error.CoreError.{CoreError}
use Rattle.cbs_steps.specs.declared.step.Step.{Step}
use Rattle.cbs_steps.specs.declared.step.Step.TheVariants.{Submit, Run, Advance, Close, Charge}
use Rattle.cbs_steps.proofs.Histories.{charged_there}
use Rattle.cbs_steps.proofs.PaidUnits.{paid_after}
use Rattle.cbs_steps.proofs.Promises.{all, idle_owed, submitted, total}
use Rattle.cbs_guarantee.specs.Overruns.{opens_after, IsApartStep, IsOneStream, units_before, IsOverrunStep, AreOverruns, KeepsUnits}
use Rattle.cbs_guarantee.specs.Streams.{span_of}
use Rattle.cbs_guarantee.proofs.Overruns.{IsGoing, all_done, span_same}
use Rattle.cbs_guarantee.proofs.Steps.{others_behind, moves_ticks, by_step}
use Rattle.cbs_guarantee.proofs.Streams.{reserved, due_given, due_charged}

module _ {W : Type 0} (work : Meaning W) (setup : Setup) (s every units overrun : ℕ) where
  -- Of a server that had got `before` units when its last job came, and since then ticks were counted for that: they
  -- are no more than its units, and what each unit that it got since may be charged; the last one may be charged more
  record IsCounted (before ticks : ℕ) (a : Account W) : Type 0 where
    since : before ≤ a.got
    asked : all work a ≤ before + units
    most : ticks ≤ units + overrun * (a.got - before)
    last : before < a.got → (a.latest ≤ overrun) × (ticks + overrun ≤ units + overrun * (a.got - before) + a.latest)

  -- what leaves the jobs, the units and the charges for the last one, keeps it
  counted_same : (before ticks : ℕ) (a b : Account W) → b.got ≡ a.got → b.accepted ≡ a.accepted → b.latest ≡ a.latest → IsCounted before ticks a
      → IsCounted before ticks b
  counted_same before ticks a b got jobs latest h = record {
    since = rw got h.since;
    asked = rw jobs h.asked;
    most = rw got h.most;
    last = rw (got, latest) h.last;
  }

  -- a unit more
  counted_unit : (before ticks : ℕ) (a : Account W) → IsCounted before ticks a → IsCounted before ticks (account_with_unit a)
  counted_unit before ticks a h =
      let since = h.since in
      let most = h.most in
      let e : a.got + 1 - before ≡ a.got - before + 1 = omega arith in
      let f : overrun * (a.got - before + 1) ≡ overrun * (a.got - before) + overrun = omega arith in
      record {
        since = omega arith;
        asked = h.asked;
        most = rw (e, f) (omega arith);
        last = λ lt. (omega arith, rw (e, f) (omega arith));
      }

  -- a charge counts, if a unit was got since the last job came
  counted_charge : (before ticks n : ℕ) (a : Account W) → before < a.got → a.latest + n ≤ overrun → IsCounted before ticks a
      → IsCounted before (ticks + n) (account_with_charge n a)
  counted_charge before ticks n a some few h =
      let l = h.last some in
      let one = l.0 in
      let more = l.1 in
      record {
        since = h.since;
        asked = h.asked;
        most = omega arith;
        last = λ lt. (few, omega arith);
      }

  -- a job comes, if all before are finished
  counted_job : (now : ℕ) (job : W) (a : Account W) → all work a ≡ a.got → work.left job ≤ units
      → all work (account_with_job work now job a) ≡ all work a + work.left job
      → IsCounted a.got (work.left job) (account_with_job work now job a)
  counted_job now job a done small more = record {
    since = omega arith;
    asked = omega arith;
    most = omega arith;
    last = λ lt. absurd (omega arith);
  }

  abbrev ticks_after : List (Step W) → ℕ
  ticks_after M = (charged_due work setup s M).units

  abbrev got_before : List (Step W) → ℕ
  got_before M = units_before work setup s M

  -- so it is of the server after the steps
  abbrev IsCountedAfter : List (Step W) → Type 0
  IsCountedAfter M = IsCounted (got_before M) (ticks_after M) (account (after work setup M).accounts s)

  -- then the last job takes no more than that
  ticks_most : (M : List (Step W)) → IsCountedAfter M → ticks_after M ≤ units * (1 + overrun)
  ticks_most M h =
      let a = account (after work setup M).accounts s in
      let paid = paid_after work setup M s in
      let e : need work a (length a.accepted) ≡ all work a = rw (take_all (length a.accepted) a.accepted (omega arith)) refl in
      let since = h.since in
      let asked = h.asked in
      let most = h.most in
      let few : a.got - got_before M ≤ units = omega arith in
      let m = mul-le overrun (a.got - got_before M) overrun units (omega arith) few in
      omega arith

  -- no job comes early
  apart_of : (x : Step W) (M : List (Step W)) → IsOverrunStep work setup s every units overrun M x → IsApartStep work setup s every M x
  apart_of (Submit t job) M is = λ e accepted. (is e accepted).1
  apart_of Run M is = tt
  apart_of (Advance n) M is = tt
  apart_of (Close t) M is = tt
  apart_of (Charge t n) M is = tt

  -- at the start nothing is counted
  counted_new : (ts : List Terms) (i : ℕ) → (let a : Account W = account (map new_account ts) i in IsCounted 0 0 a)
  counted_new [] i = record { since = omega arith; asked = omega arith; most = omega arith; last = λ lt. absurd (omega arith) }
  counted_new (t ∷ ts) zero = record { since = omega arith; asked = omega arith; most = omega arith; last = λ lt. absurd (omega arith) }
  counted_new (t ∷ ts) (suc i) = counted_new ts i

  -- a charge of server s that is not refused, and its ticks
  counted_charging : (before ticks n : ℕ) (w : World W) (o : Option CoreError) → o ≡ None → s < length w.accounts
      → (0 < n → before < (account w.accounts s).got)
      → (account w.accounts s).latest + n ≤ overrun → IsCounted before ticks (account w.accounts s)
      → IsCounted before (ticks + n) (account (after_charging w s n o).accounts s)
  counted_charging before ticks n w (Some e) bad lt some few h = cc
  counted_charging before ticks zero w None charged lt some few h = let z : ticks + 0 ≡ ticks = omega arith in rw z h
  counted_charging before ticks (suc n) w None charged lt some few h =
      let f = account_with_charge (suc n) in
      let here : account (changed_at f w.accounts s) s ≡ f (account w.accounts s) = changed_here f w.accounts s no_account lt in
      let one = counted_charge before ticks (suc n) (account w.accounts s) (some (omega arith)) few h in
      moves_ticks work setup s (suc n) (record w { accounts = changed_at f w.accounts s }) (IsCounted before (ticks + suc n))
      (λ a ready. counted_unit before (ticks + suc n) a) (λ now a k. counted_same before (ticks + suc n) a (account_with_replenishment now a) refl refl refl k)
      (λ a k. counted_same before (ticks + suc n) a (account_with_close a) refl refl refl k)
      (λ a k. counted_same before (ticks + suc n) a (account_let_go a) refl refl refl k) (rw here one)

  module _ (keeps : (L : List (Step W)) → KeepsChargedDue work (record { setup = setup; steps = L })) (delay : ℕ)
      (apart : span_of (reserved work setup s) (units * (1 + overrun)) + delay ≤ every) where
    -- if the next job may come, all that was asked for is done
    idle_after : (M : List (Step W)) → IsGoing work setup s every (units * (1 + overrun)) (omega arith) keeps delay apart M
        → opens_after work setup s every M ≤ (after work setup M).now
        → (let a = account (after work setup M).accounts s in all work a ≡ a.got)
    idle_after M go late =
        let a = account (after work setup M).accounts s in
        let done = all_done work setup s every (units * (1 + overrun)) (omega arith) keeps delay apart M go late in
        let idle : is_active (face_of work a) ≡ false = grind (arith, nat_tests) in
        let paid = paid_after work setup M s in
        let e : need work a (length a.accepted) ≡ all work a = rw (take_all (length a.accepted) a.accepted (omega arith)) refl in
        sym (idle_owed work a idle (omega arith))

    -- after all steps each job took no more than its units and what each may be charged
    counted_after : (M : List (Step W)) → AdvanceQuietly work setup M → AreOverruns work setup s every units overrun M
        → others_charges (after work setup M).accounts s ≤ delay
        → IsCountedAfter M × IsOneStream work setup s every (units * (1 + overrun)) M
    counted_after [] quiet are others = (counted_new setup.servers s, tt)
    counted_after (x ∷ M) quiet are others =
        let less = others_behind work setup (x ∷ []) M s in
        let w = after work setup M in
        let a = account w.accounts s in
        let rest = counted_after M quiet.0 are.0 (omega arith) in
        let h = rest.0 in
        let counted : IsCountedAfter (x ∷ M) = by_step work setup s (λ L. AreOverruns work setup s every units overrun L → IsCountedAfter L) x M
        (λ job accepted are.
        let itself : eqb s s ≡ true = grind (arith, nat_tests) in
        let is = are.1 refl accepted in
        let before : got_before (Submit s job ∷ M) ≡ a.got = rw (itself, accepted) refl in
        let ticks : ticks_after (Submit s job ∷ M) ≡ work.left job = ap (λ (d : Due). d.units) (due_given work setup s M job accepted) in
        let done = idle_after M (record { quiet = quiet.0; stream = rest.1; others = omega arith }) is.1 in
        rw (before, ticks, submitted work setup M s job accepted) (counted_job w.now job a done is.0 (total work setup M s job accepted)))
        (λ n charged are.
        let is = are.1 refl charged in
        let ticks : ticks_after (Charge s n ∷ M) ≡ ticks_after M + n = ap (λ (d : Due). d.units) (due_charged work setup s M n charged) in
        rw ticks (counted_charging (got_before M) (ticks_after M) n w (charge_refusal w s n) charged (charged_there work w s n charged) is.0 is.1 h))
        (λ other moves are.
        let e = ap (λ (d : Due). d.units) other.due in
        let before = got_before M in
        let ticks = ticks_after M in
        rw (other.units, e) (moves (IsCounted before ticks) (λ a ready. counted_unit before ticks a)
        (λ now a. counted_same before ticks a (account_with_replenishment now a) refl refl refl)
        (λ a. counted_same before ticks a (account_with_close a) refl refl refl) (λ a. counted_same before ticks a (account_let_go a) refl refl refl) h))
        are in
        (counted, (rest.1, (apart_of x M are.1, ticks_most (x ∷ M) counted)))

module _ {W : Type 0} (work : Meaning W) (N : History W) (keeps : (L : List (Step W)) → KeepsChargedDue work (when N L)) where
  -- the units and charges of each job are those of one stream
  pub units_kept : KeepsUnits work N
  units_kept = λ quiet s units overrun every delay are others apart.
      let e = span_same work N keeps s (units * (1 + overrun)) in
      let apart' : span_of (reserved work N.setup s) (units * (1 + overrun)) + delay ≤ every = rw e at apart in
      (counted_after work N.setup s every units overrun keeps delay apart' N.steps quiet are others).1
