-- A job ends with the last charge for its last unit, by the tick that can be given when it is accepted.
use Rattle.std.proofs.Common.{◌≡◌, ℕ, zero, suc, ◌+◌, ◌-◌, ◌*◌, ◌≤◌, ◌<◌, true, false, eqb, leb, ltb, ◌||◌, List, [], ◌∷◌, ◌++◌, length, map, get_or, arith, refl, inl, inr}
use Rattle.std.proofs.Common.{sym, ap, ◌∙◌, subst, Option, Some, None, append_assoc}
use Rattle.std.specs.List.{sum_by}
use Rattle.std.proofs.lemmas.Bool.{cases_Bool}
use Rattle.std.proofs.lemmas.Bool.Decides.{nat_tests}
use Rattle.std.proofs.lemmas.List.{length-map}
use Rattle.std.proofs.lemmas.List.Sums.{get_or-le-sum_by, sum_by-cons}
use Rattle.cbs_job.specs.Work.{Meaning, whole}
use Rattle.cbs_rate.specs.Plan.{all_periods}
use Rattle.cbs_rate.specs.Rate.{Rate}
use Rattle.cbs_rules.specs.Rules.{clock_end}
use Rattle.cbs_lists.specs.Lists.{changed_at}
use Rattle.cbs_lists.proofs.Lists.{changed_here, AllByRecursion-get}
use Rattle.cbs_lists.proofs.Sums.{sum_map, sum_changed_same}
use Rattle.cbs_steps.specs.Faces.{is_active, submit_refusal}
use Rattle.cbs_steps.specs.Accounts.{Account, need, finished, taken, face_of, no_account, account_with_job, account_with_unit, account_with_charge, account_with_replenishment, account_let_go}
use Rattle.cbs_steps.specs.Charged.{others_charges, AreChargesOf, IsEndOf, KeepsChargedEnd}
use Rattle.cbs_steps.specs.History.{World, Setup, History, account, faces, chosen, runner, let_go, after_run, after_charging, charge_refusal, run_reply, after}
use Rattle.cbs_steps.specs.Laws.{account_in}
use Rattle.cbs_steps.specs.Quiet.{AdvanceQuietly}
use Rattle.cbs_steps.specs.declared.error.CoreError.{CoreError}
use Rattle.cbs_steps.specs.declared.error.CoreError.TheVariants as error
use Rattle.cbs_steps.specs.declared.reply.Ran.{Ran}
use Rattle.cbs_steps.specs.declared.reply.Ran.TheVariants as ran
use Rattle.cbs_steps.specs.declared.reply.Reply.{Reply}
use Rattle.cbs_steps.specs.declared.reply.Reply.TheVariants as reply
use Rattle.cbs_steps.specs.declared.step.Step.{Step}
use Rattle.cbs_steps.specs.declared.step.Step.TheVariants.{Submit, Run, Advance, Close, Charge}
use Rattle.cbs_steps.proofs.Covers.{IsCovered, covered_from, covered-until}
use Rattle.cbs_steps.proofs.Histories.{charged_runs, charged_there, holds_behind, terms_behind}
use Rattle.cbs_steps.proofs.Lateness.{due_busy}
use Rattle.cbs_steps.proofs.LawfulServers.{lawful_job}
use Rattle.cbs_steps.proofs.OnTime.{IsAdmitted, given, sound_after}
use Rattle.cbs_steps.proofs.OnTimeSteps.{IsSound}
use Rattle.cbs_steps.proofs.Promises.{IsGrowing, goal, all, total, place, submitted, count_after, awaited_after, pending_active, need_job}
use Rattle.cbs_steps.proofs.Running.{replenished_account, loose_account, runs_charged, charge_jumps, charge_refused, not_refused}
use Rattle.cbs_steps.proofs.Supplies.{IsSupplied, supplied_charging, supplied_next}
use Rattle.cbs_steps.proofs.Ticks.{jumped}

-- a sum in which one number is exchanged
sum_exchanged : {X : Type 0} (f : X → ℕ) (h : X → X) (xs : List X) (s : ℕ) (d : X) → s < length xs
    → sum_by f (changed_at h xs s) + f (get_or xs s d) ≡ sum_by f xs + f (h (get_or xs s d))
sum_exchanged f h [] s d lt = absurd (omega arith)
sum_exchanged f h (x ∷ xs) zero d lt = omega (arith, sum_by-cons f (h x) xs, sum_by-cons f x xs)
sum_exchanged f h (x ∷ xs) (suc s) d lt =
    let rest = sum_exchanged f h xs s d (omega arith) in
    omega (arith, sum_by-cons f x (changed_at h xs s), sum_by-cons f x xs)

-- what a Run returned
abbrev pub ran_of : {W : Type 0} → Reply W → Ran
ran_of (reply.Ran r) = r
ran_of _ = ran.Idle

-- the server and the number of the job that it finished
abbrev done_server : Ran → ℕ
done_server (ran.Done c) = c.server
done_server _ = 0

abbrev done_seq : Ran → ℕ
done_seq (ran.Done c) = c.seq
done_seq _ = 0

module _ {W : Type 0} where
  -- what the others were charged, by one account that has no more than all
  others_same : (f : Account W → ℕ) (xs ys : List (Account W)) (s : ℕ) → sum_by f ys + f (account xs s) ≡ sum_by f xs + f (account ys s)
      → f (account xs s) ≤ sum_by f xs → sum_by f ys - f (account ys s) ≡ sum_by f xs - f (account xs s)
  others_same f xs ys s e le = omega arith

module _ {W : Type 0} (work : Meaning W) where
  -- what a step that takes n ticks of server s leaves of the clock, of the server, and of what the others were charged
  record IsTaken (w v : World W) (s n : ℕ) : Type 0 where
    clock : v.now ≡ w.now + n
    took : taken (account v.accounts s) ≡ taken (account w.accounts s) + n
    runs : (account v.accounts s).runs ≡ true
    others : others_charges v.accounts s ≡ others_charges w.accounts s

  -- a charge of n ticks
  charge_takes : (w : World W) (s n : ℕ) → charge_refusal w s n ≡ None → IsTaken w (after_charging w s n None) s n
  charge_takes w s zero e = record { clock = omega arith; took = omega arith; runs = charged_runs work w s zero e; others = refl }
  charge_takes w s (suc n) e =
      let lt = charged_there work w s (suc n) e in
      let f = λ (a : Account W). a.charges.most in
      let xs = changed_at (account_with_charge (suc n)) w.accounts s in
      let v = jumped (suc n) (record w { accounts = xs }) in
      let here : account xs s ≡ account_with_charge (suc n) (account w.accounts s) = changed_here (account_with_charge (suc n)) w.accounts s no_account lt in
      let at = replenished_account (w.now + suc n) xs s in
      let sums : sum_by f v.accounts ≡ sum_by f xs = sum_map f (account_with_replenishment (w.now + suc n)) xs in
      let most : f (account v.accounts s) ≡ f (account xs s) = rw at refl in
      let swap : sum_by f xs + f (account w.accounts s) ≡ sum_by f w.accounts + f (account_with_charge (suc n) (account w.accounts s)) =
      sum_exchanged f (account_with_charge (suc n)) w.accounts s no_account lt in
      let more : f (account xs s) ≡ f (account_with_charge (suc n) (account w.accounts s)) = ap f here in
      let part : f (account w.accounts s) ≤ sum_by f w.accounts = get_or-le-sum_by f w.accounts s no_account lt in
      rw (charge_jumps w s (suc n) (omega arith)) record {
        clock = refl;
        took = rw (at, here) (omega arith);
        runs = runs_charged w s (suc n) s ∙ charged_runs work w s (suc n) e;
        others = others_same f w.accounts v.accounts s (omega arith) part;
      }

  -- a unit
  unit_takes : (w : World W) (s : ℕ) → s < length w.accounts → IsTaken w (after_run w (Some s)) s 1
  unit_takes w s lt =
      let f = λ (a : Account W). a.charges.most in
      let ls = (let_go w).accounts in
      let xs = changed_at account_with_unit ls s in
      let v = after_run w (Some s) in
      let there : s < length ls = omega (arith, length-map w.accounts (account_let_go {W = W})) in
      let here : account xs s ≡ account_with_unit (account ls s) = changed_here account_with_unit ls s no_account there in
      let loose = loose_account w.accounts s in
      let at = replenished_account (w.now + 1) xs s in
      let sums : sum_by f v.accounts ≡ sum_by f xs = sum_map f (account_with_replenishment (w.now + 1)) xs in
      let same : sum_by f xs ≡ sum_by f ls = sum_changed_same f account_with_unit ls s (λ a. refl) in
      let before : sum_by f ls ≡ sum_by f w.accounts = sum_map f account_let_go w.accounts in
      let most : f (account v.accounts s) ≡ f (account w.accounts s) = rw (at, here, loose) refl in
      record {
        clock = refl;
        took = rw (at, here, loose) (omega arith);
        runs = rw (at, here) refl;
        others = omega arith;
      }

  -- a charge that is not refused ends before the clock's end
  charged_early : (w : World W) (s n : ℕ) → charge_refusal w s n ≡ None → w.now + n ≤ clock_end
  charged_early w s n e = elim (cases_Bool (ltb clock_end (w.now + n))) [
    | inl t ↦
        let f : leb (length w.accounts) s ≡ false = let lt = charged_there work w s n e in grind (arith, nat_tests) in
        let g : Some error.ClockEnd ≡ None = rw (f, charged_runs work w s n e, t) at e in
        cc
    | inr f ↦ grind (arith, nat_tests)
  ]

  -- the server of a Run that finishes a job runs, and the job gets the last unit that it needs
  record IsLastUnit (w : World W) (s q : ℕ) : Type 0 where
    chosen : runner work w ≡ Some s
    before : finished work (account w.accounts s) ≡ q
    enough : need work (account w.accounts s) (q + 1) ≡ (account w.accounts s).got + 1

  last_unit : (w : World W) (s q n : ℕ) (o : Option ℕ) → chosen work w ≡ o → run_reply work w o ≡ ran.Done (record { server = s; seq = q; result = n })
      → IsLastUnit w s q
  last_unit w s q n None c e = cc
  last_unit w s q n (Some t) c e = elim (cases_Bool (leb clock_end w.now)) [
    | inl y ↦ let k : ran.ClockEnd ≡ ran.Done (record { server = s; seq = q; result = n }) = rw y at e in cc
    | inr f ↦
        let a = account w.accounts t in
        let k = finished work a in
        let early : ltb w.now clock_end ≡ true = grind (arith, nat_tests) in
        let r : runner work w ≡ Some t = rw early c in
        elim (cases_Bool (eqb (need work a (k + 1)) (a.got + 1))) [
          | inl y ↦
              let d : ran.Done (record { server = t; seq = k; result = get_or (map (whole work) a.accepted) k 0 }) ≡ ran.Done (record { server = s; seq = q; result = n }) = rw (f, y) at e in
              let same : t ≡ s = ap done_server d in
              let first : k ≡ q = ap done_seq d in
              let all : need work a (k + 1) ≡ a.got + 1 = grind (arith, nat_tests) in
              subst (λ v. IsLastUnit w v q) same (record { chosen = r; before = first; enough = rw first at all })
          | inr g ↦ let d : ran.Unit t k ≡ ran.Done (record { server = s; seq = q; result = n }) = rw (f, g) at e in cc
        ]
  ]

  module _ (n b : ℕ) (setup : Setup) (s : ℕ) (ok : IsAdmitted (given work setup)) where
    -- The world after some steps, and server s in it
    abbrev world : List (Step W) → World W
    world L = after work setup L

    abbrev server : List (Step W) → Account W
    server L = account (world L).accounts s

    -- the clock has not passed b and what the others are charged
    abbrev InTime : World W → Type 0
    InTime w = w.now ≤ b + others_charges w.accounts s

    -- if n ticks are covered by b, and not yet taken, the clock is before b and what the others are charged
    before_last : (L : List (Step W)) → AdvanceQuietly work setup L → s < length (world L).accounts → ((server L).runs || is_active (face_of work (server L))) ≡ true
        → IsSupplied work n b (server L) → taken (server L) < n → (world L).now < b + others_charges (world L).accounts s
    before_last L quiet lt busy h owes =
        let due = due_busy work setup L ok quiet s lt busy in
        let by = covered-until (server L).terms.reservation n b (taken (server L)) (server L).state h.lawful.state (h.pending owes) owes in
        omega arith

    -- charges keep what is covered
    supplied_charges : (C L : List (Step W)) → AreChargesOf s C → IsSupplied work n b (server L) → IsSupplied work n b (server (C ++ L))
    supplied_charges [] L only h = h
    supplied_charges (Charge t m ∷ C) L only h = supplied_charging work n b s setup.backlog (world (C ++ L)) t m (supplied_charges C L only.1 h)
    supplied_charges (Submit t job ∷ C) L only h = absurd only
    supplied_charges (Run ∷ C) L only h = absurd only
    supplied_charges (Advance m ∷ C) L only h = absurd only
    supplied_charges (Close t ∷ C) L only h = absurd only

    -- so does one charge more, in time, as long as no more than n ticks are taken
    in_time_charge : (L : List (Step W)) (m : ℕ) (o : Option CoreError) → charge_refusal (world L) s m ≡ o → AdvanceQuietly work setup L → s < length (world L).accounts
        → IsSupplied work n b (server L) → (taken (server L) ≤ n → InTime (world L))
        → taken (account (after_charging (world L) s m o).accounts s) ≤ n → InTime (after_charging (world L) s m o)
    in_time_charge L zero None e quiet lt h before few = before few
    in_time_charge L (suc m) None e quiet lt h before few =
        let w = world L in
        let early = charged_early w s (suc m) e in
        let one : charge_refusal w s m ≡ None = not_refused w s m lt (charged_runs work w s (suc m) e) (omega arith) in
        let first = charge_takes w s m one in
        let all = charge_takes w s (suc m) e in
        let step : world (Charge s m ∷ L) ≡ after_charging w s m None = rw one refl in
        let k : IsSupplied work n b (server (Charge s m ∷ L)) = supplied_charging work n b s setup.backlog w s m h in
        let runs : (server (Charge s m ∷ L)).runs ≡ true = rw step first.runs in
        let there : s < length (world (Charge s m ∷ L)).accounts = let i = count_after work setup (Charge s m ∷ L) in let j = count_after work setup L in omega arith in
        let took : taken (server (Charge s m ∷ L)) ≡ taken (server L) + m = rw step first.took in
        let clock : (world (Charge s m ∷ L)).now ≡ w.now + m = rw step first.clock in
        let others : others_charges (world (Charge s m ∷ L)).accounts s ≡ others_charges w.accounts s = rw step first.others in
        let p = all.took in
        let q = all.clock in
        let r = all.others in
        let last = before_last (Charge s m ∷ L) (quiet, tt) there (rw runs refl) k (omega arith) in
        omega arith
    in_time_charge L m (Some e) f quiet lt h before few = let same = charge_refused (world L) s m e in rw same (before (rw same at few))

    -- and so do all charges
    in_time_charges : (C L : List (Step W)) → AreChargesOf s C → AdvanceQuietly work setup (C ++ L) → s < length (world L).accounts → IsSupplied work n b (server L)
        → (taken (server L) ≤ n → InTime (world L)) → taken (server (C ++ L)) ≤ n → InTime (world (C ++ L))
    in_time_charges [] L only quiet lt h before few = before few
    in_time_charges (Charge t m ∷ C) L only quiet lt h before few =
        let there : s < length (world (C ++ L)).accounts = let i = count_after work setup (C ++ L) in let j = count_after work setup L in omega arith in
        let here : taken (account (after_charging (world (C ++ L)) s m (charge_refusal (world (C ++ L)) s m)).accounts s) ≤ n = rw only.0 at few in
        rw only.0 (in_time_charge (C ++ L) m (charge_refusal (world (C ++ L)) s m) refl quiet.0 there (supplied_charges C L only.1 h)
        (in_time_charges C L only.1 quiet.0 lt h before) here)
    in_time_charges (Submit t job ∷ C) L only quiet lt h before few = absurd only
    in_time_charges (Run ∷ C) L only quiet lt h before few = absurd only
    in_time_charges (Advance m ∷ C) L only quiet lt h before few = absurd only
    in_time_charges (Close t ∷ C) L only quiet lt h before few = absurd only

  -- the first steps of a list that advances quietly
  advance_front : (setup : Setup) (C L : List (Step W)) → AdvanceQuietly work setup (C ++ L) → AdvanceQuietly work setup L
  advance_front setup [] L quiet = quiet
  advance_front setup (x ∷ C) L quiet = advance_front setup C L quiet.0

  -- what a server was charged grows
  charges-grow : (setup : Setup) (C L : List (Step W)) (s t : ℕ) → t ≤ (account (after work setup L).accounts s).charges.total
      → t ≤ (account (after work setup (C ++ L)).accounts s).charges.total
  charges-grow setup C L s t h = holds_behind work (λ now a. t ≤ a.charges.total) (λ now a ready k. k) (λ now a k. k) (λ now a k. k) (λ now a k. k) (λ now j a k. k)
      (λ now m a some runs k. omega arith) setup C L s h

  -- a charge leaves the units that its server got
  units_charged : (w : World W) (s n : ℕ) (o : Option CoreError) → charge_refusal w s n ≡ o → (account (after_charging w s n o).accounts s).got ≡ (account w.accounts s).got
  units_charged w s zero None e = refl
  units_charged w s (suc n) None e =
      let lt = charged_there work w s (suc n) e in
      let xs = changed_at (account_with_charge (suc n)) w.accounts s in
      let here : account xs s ≡ account_with_charge (suc n) (account w.accounts s) = changed_here (account_with_charge (suc n)) w.accounts s no_account lt in
      rw (charge_jumps w s (suc n) (omega arith), replenished_account (w.now + suc n) xs s, here) refl
  units_charged w s n (Some e) f = rw (charge_refused w s n e) refl

  units_charges : (setup : Setup) (C L : List (Step W)) (s : ℕ) → AreChargesOf s C
      → (account (after work setup (C ++ L)).accounts s).got ≡ (account (after work setup L).accounts s).got
  units_charges setup [] L s only = refl
  units_charges setup (Charge t m ∷ C) L s only =
      let w = after work setup (C ++ L) in
      rw only.0 (units_charged w s m (charge_refusal w s m) refl) ∙ units_charges setup C L s only.1
  units_charges setup (Submit t job ∷ C) L s only = absurd only
  units_charges setup (Run ∷ C) L s only = absurd only
  units_charges setup (Advance m ∷ C) L s only = absurd only
  units_charges setup (Close t ∷ C) L s only = absurd only

  module _ (setup : Setup) (M : List (Step W)) (s : ℕ) (job : W) (accepted : submit_refusal setup.backlog (faces work (after work setup M)) s ≡ None) where
    abbrev first : Account W
    first = account (after work setup M).accounts s

    -- Each job ends by the tick that covers it from its submit on, later by no more than what the others are charged
    pub ended : (n b : Rate → ℕ → ℕ) → IsGrowing work first.accepted job n b → (C K : List (Step W)) (m : ℕ) → IsAdmitted (given work setup)
        → AdvanceQuietly work setup (C ++ Run ∷ (K ++ Submit s job ∷ M)) → AreChargesOf s C
        → (let w = after work setup (K ++ Submit s job ∷ M) in
        run_reply work w (chosen work w) ≡ ran.Done (record { server = s; seq = length first.accepted; result = m }))
        → (let c = account_with_job work (after work setup M).now job first in
        IsCovered first.terms.reservation (n first.terms.reservation c.charges.total) (b first.terms.reservation c.charges.total) (taken c) c.state)
        → (let v = after work setup (C ++ Run ∷ (K ++ Submit s job ∷ M)) in
        let c = account v.accounts s in
        goal work first.accepted job n b + c.charges.total ≤ n c.terms.reservation c.charges.total
        → v.now ≤ b c.terms.reservation c.charges.total + others_charges v.accounts s)
    ended n b grows C K m ok quiet only done c few =
        let L = K ++ Submit s job ∷ M in
        let w = after work setup L in
        let a = account w.accounts s in
        let r = a.terms.reservation in
        let h = awaited_after work setup M s job accepted n b grows K ok c in
        let at = place work setup M s job accepted in
        let there : s < length w.accounts = let i = count_after work setup L in let j = count_after work setup M in omega arith in
        let last = last_unit w s (length first.accepted) m (chosen work w) refl done in
        let enough = last.enough in
        let needs = need_job work first.accepted job n b a h in
        let all = needs.1 in
        let owes : a.got < goal work first.accepted job n b = omega arith in
        let active = pending_active work first.accepted job n b a h owes in
        let one = unit_takes w s there in
        let step : after work setup (Run ∷ L) ≡ after_run w (Some s) = rw last.chosen refl in
        let unit = unit_has w s there in
        let got : (account (after work setup (Run ∷ L)).accounts s).got ≡ a.got + 1 = rw step unit.0 in
        let charged : (account (after work setup (Run ∷ L)).accounts s).charges.total ≡ a.charges.total = rw step unit.1 in
        let v = after work setup (C ++ Run ∷ L) in
        let z = account v.accounts s in
        let units = units_charges setup C (Run ∷ L) s only in
        let charges : a.charges.total ≤ z.charges.total = charges-grow setup C (Run ∷ L) s a.charges.total (omega arith) in
        let terms : z.terms ≡ a.terms = terms_behind work setup C (Run ∷ L) s ∙ terms_behind work setup (Run ∷ []) L s in
        let few' : goal work first.accepted job n b + z.charges.total ≤ n r z.charges.total = rw terms at few in
        let more = z.charges.total - a.charges.total in
        let e : a.charges.total + more ≡ z.charges.total = omega arith in
        let some = h.lawful.rate.some in
        let under : a.got + a.charges.total < n r a.charges.total = grows.under r a.charges.total more a.got some owes (rw e (omega arith)) in
        let covered : IsCovered r (n r z.charges.total) (b r z.charges.total) (taken a) a.state =
        rw e at (grows.grow r a.charges.total more (taken a) a.state some (h.pending owes under)) in
        let N = n r z.charges.total in
        let B = b r z.charges.total in
        let supplied : IsSupplied work N B a = record { lawful = h.lawful; pending = λ _. covered } in
        let next = supplied_next work N B s setup.backlog w Run there active supplied in
        let front = advance_front setup C (Run ∷ L) quiet in
        let there1 : s < length (after work setup (Run ∷ L)).accounts = let i = count_after work setup (Run ∷ L) in let j = count_after work setup L in omega arith in
        let took : taken (account (after work setup (Run ∷ L)).accounts s) ≡ taken a + 1 = rw step one.took in
        let clock : (after work setup (Run ∷ L)).now ≡ w.now + 1 = rw step one.clock in
        let others : others_charges (after work setup (Run ∷ L)).accounts s ≡ others_charges w.accounts s = rw step one.others in
        rw terms (in_time_charges N B setup s ok C (Run ∷ L) only quiet there1 next
        (λ enough. let soon = before_last N B setup s ok L front.0 there (grind (arith, nat_tests)) supplied (omega arith) in omega arith) (omega arith))
      where
        unit_has : (w : World W) (s : ℕ) → s < length w.accounts
            → (let a = account (after_run w (Some s)).accounts s in
            (a.got ≡ (account w.accounts s).got + 1) × (a.charges.total ≡ (account w.accounts s).charges.total))
        unit_has w s lt =
            let ls = (let_go w).accounts in
            let there : s < length ls = omega (arith, length-map w.accounts (account_let_go {W = W})) in
            rw (replenished_account (w.now + 1) (changed_at account_with_unit ls s) s, changed_here account_with_unit ls s no_account there, loose_account w.accounts s)
            (refl, refl)

  -- the steps with the last Run apart
  pub end_steps : (N : History W) (C K M : List (Step W)) (s : ℕ) (job : W) → IsEndOf work N C K M s job → N.steps ≡ C ++ Run ∷ (K ++ Submit s job ∷ M)
  end_steps N C K M s job of = of.job_of.steps ∙ append_assoc C (Run ∷ K) (Submit s job ∷ M)

  -- before that Run the job was the first that is not finished
  pub end_first : (N : History W) (C K M : List (Step W)) (s : ℕ) (job : W) → IsEndOf work N C K M s job
      → finished work (account (after work N.setup (K ++ Submit s job ∷ M)).accounts s) ≡ length (account (after work N.setup M).accounts s).accepted
  end_first N C K M s job of =
      let w = after work N.setup (K ++ Submit s job ∷ M) in
      (last_unit w s (length (account (after work N.setup M).accounts s).accepted) of.result (chosen work w) refl (ap ran_of of.done)).before

  -- every history has each job ended by the tick that can be given when it is accepted
  pub charged_end_kept : (N : History W) → IsAdmitted (given work N.setup) → KeepsChargedEnd work N
  charged_end_kept N ok = λ quiet C K M s job j of enough.
      let setup = N.setup in
      let w = after work setup M in
      let a = account w.accounts s in
      let c = account_with_job work w.now job a in
      let accepted = of.job_of.accepted in
      let e = submitted work setup M s job accepted in
      let t = total work setup M s job accepted in
      let n = taken c + c.state.budget + j * c.terms.reservation.budget - c.state.overrun in
      let b = c.state.deadline + j * c.terms.reservation.period in
      let law = lawful_job work w.now job a (AllByRecursion-get (IsSound work (all_periods (given work setup))) w.accounts s no_account
      (sound_after work setup M ok).each (place work setup M s job accepted)).lawful in
      let steps = end_steps N C K M s job of in
      let enough' : all work c + (account_in work N s).charges.total + c.state.overrun ≤ taken c + c.state.budget + j * c.terms.reservation.budget = rw e at enough in
      let same : (account (after work setup (C ++ Run ∷ (K ++ Submit s job ∷ M))).accounts s).charges.total ≡ (account_in work N s).charges.total = rw steps refl in
      rw e (subst (λ L. (let v = after work setup L in v.now ≤ b + others_charges v.accounts s)) (sym steps)
      (ended setup M s job accepted (λ r t. n) (λ r t. b) (record { under = λ r t m got some owes lt. omega arith; grow = λ r t m g s some k. k })
      C K of.result ok (subst (λ L. AdvanceQuietly work setup L) steps quiet) of.charges (ap ran_of of.done)
      (covered_from c.terms.reservation n j (taken c) c.state law.state (omega arith)) (rw same (omega arith))))
