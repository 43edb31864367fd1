-- Each job is finished by the tick that was given when it was accepted.
use Rattle.std.proofs.Common.{◌≡◌, ℕ, ◌+◌, ◌-◌, ◌*◌, ◌≤◌, ◌<◌, true, false, ◌||◌, List, [], ◌∷◌, ◌++◌, length, take, arith, refl, inl, inr, sym}
use Rattle.std.proofs.Common.{subst, ap, ◌∙◌, None, length-append, append_assoc}
use Rattle.std.specs.List.{sum_by}
use Rattle.std.proofs.lemmas.Bool.{cases_lt}
use Rattle.std.proofs.lemmas.Bool.Decides.{nat_tests}
use Rattle.std.proofs.lemmas.List.{take_all, take_at, length-map}
use Rattle.std.proofs.lemmas.List.Sums.{sum_by-append}
use Rattle.cbs_job.specs.Work.{Meaning}
use Rattle.cbs_steps.specs.Faces.{is_active, is_ready, submit_refusal}
use Rattle.cbs_steps.specs.Accounts.{Account, need, finished, face_of, no_account, account_with_job, account_with_unit, account_with_replenishment}
use Rattle.cbs_steps.specs.Accounts.{account_with_charge, account_with_close, account_let_go, taken}
use Rattle.cbs_steps.specs.History.{World, Setup, History, account, faces, after, world_after}
use Rattle.cbs_steps.specs.Charged.{others_charges, KeepsChargedPromise}
use Rattle.cbs_steps.specs.Promises.{KeepsPromise, KeepsBound}
use Rattle.cbs_steps.specs.Laws.{account_in}
use Rattle.cbs_steps.specs.Quiet.{AdvanceQuietly}
use Rattle.cbs_steps.specs.declared.step.Step.{Step}
use Rattle.cbs_steps.specs.declared.step.Step.TheVariants.{Submit}
use Rattle.cbs_steps.proofs.Covers.{IsCovered, covered_from, covered_paid, covered_taken, covered_unit, covered_replenishment}
use Rattle.cbs_steps.proofs.FinishedJobs.{count_done_within, count_done_beyond, need-mono}
use Rattle.cbs_steps.proofs.Faces.{runnable}
use Rattle.cbs_steps.proofs.Histories.{holds_behind}
use Rattle.cbs_steps.proofs.Lateness.{due_late, quiet_advances, quiet_front, others_uncharged}
use Rattle.cbs_steps.proofs.Uncharged.{uncharged_after}
use Rattle.cbs_rules.proofs.Paid.{charge_paid}
use Rattle.cbs_rate.specs.Rate.{Rate}
use Rattle.cbs_rules.specs.Rules.{State, until}
use Rattle.cbs_steps.proofs.LawfulServers.{IsLawful, lawful_job, lawful_unit, lawful_charge, lawful_let_go, lawful_replenishment, lawful_close, ready_begun}
use Rattle.cbs_lists.proofs.Lists.{changed_here, AllByRecursion-get}
use Rattle.cbs_steps.proofs.OnTime.{IsAdmitted, reservation, given, rates_after, sound_after}
use Rattle.cbs_steps.proofs.SubmitRefusals.{accepted_within}
use Rattle.cbs_rate.specs.Plan.{all_periods}
use Rattle.cbs_steps.proofs.OnTimeSteps.{IsSound}
use Rattle.cbs_steps.proofs.PaidUnits.{paid_after}

module _ {W : Type 0} (work : Meaning W) where
  -- all that the server was asked for
  abbrev pub all : Account W → ℕ
  all a = sum_by work.left a.accepted

  -- it is what all its accepted jobs need
  all_needed : (a : Account W) → need work a (length a.accepted) ≡ all a
  all_needed a = let e = take_all (length a.accepted) a.accepted (omega arith) in rw e

  -- an idle server is owed nothing
  pub idle_owed : (a : Account W) → is_active (face_of work a) ≡ false → a.got ≤ all a → a.got ≡ all a
  idle_owed a idle p =
      let no_less : length a.accepted ≤ finished work a = grind (arith, nat_tests) in
      let w : need work a (finished work a) ≤ a.got = count_done_within work.left a.accepted a.got in
      let m : need work a (length a.accepted) ≤ need work a (finished work a) = need-mono work.left a.accepted (length a.accepted) (finished work a) no_less in
      let e = all_needed a in
      omega arith

  -- an active one is owed a unit
  pub active_owed : (a : Account W) → is_active (face_of work a) ≡ true → a.got < all a
  active_owed a active =
      let lt : finished work a < length a.accepted = grind (arith, nat_tests) in
      let b = count_done_beyond work.left a.accepted a.got lt in
      let m = need-mono work.left a.accepted (finished work a + 1) (length a.accepted) (omega arith) in
      let e = all_needed a in
      omega arith

  -- One job: those before it, how many ticks are covered, and by when. Both may grow with what the server is charged in
  -- all
  module _ (before : List W) (job : W) (n b : Rate → ℕ → ℕ) where
    -- the units that the jobs up to it need
    abbrev pub goal : ℕ
    goal = sum_by work.left before + work.left job

    -- the job's place stays, and until it has its units, and so many ticks are taken, these are covered
    pub record IsAwaited (a : Account W) : Type 0 where
      pub lawful : IsLawful work a
      pub behind : List W
      pub jobs : a.accepted ≡ before ++ job ∷ behind
      pub pending : a.got < goal → taken a < n a.terms.reservation a.charges.total
          → IsCovered a.terms.reservation (n a.terms.reservation a.charges.total) (b a.terms.reservation a.charges.total) (taken a) a.state

    -- what is covered grows with what is charged
    pub record IsGrowing : Type 0 where
      pub under : (r : Rate) (t m got : ℕ) → 0 < r.budget → got < goal → got + t + m < n r (t + m) → got + t < n r t
      pub grow : (r : Rate) (t m g : ℕ) (s : State) → 0 < r.budget → IsCovered r (n r t) (b r t) g s → IsCovered r (n r (t + m)) (b r (t + m)) g s

    -- the jobs up to it need that many units
    pub need_job : (a : Account W) → IsAwaited a → (length before < length a.accepted) × (need work a (length before + 1) ≡ goal)
    need_job a h =
        let jobs : a.accepted ≡ before ++ job ∷ h.behind = h.jobs in
        let n = length-append before (job ∷ h.behind) in
        let split : before ++ job ∷ h.behind ≡ (before ++ job ∷ []) ++ h.behind = sym (append_assoc before (job ∷ []) h.behind) in
        let front = length-append before (job ∷ []) in
        let k : take (length before + 1) ((before ++ job ∷ []) ++ h.behind) ≡ before ++ job ∷ [] =
        take_at (before ++ job ∷ []) h.behind (length before + 1) (omega arith) in
        let s = sum_by-append work.left before (job ∷ []) in
        (rw jobs (omega arith), rw (jobs, split, k) (omega arith))

    -- with that many units it is finished
    done-finished : (a : Account W) → IsAwaited a → goal ≤ a.got → length before < finished work a
    done-finished a h enough =
        let n = need_job a h in
        let lt = n.0 in
        let e = n.1 in
        elim (cases_lt (length before) (finished work a)) [
          | inl y ↦ y
          | inr le ↦
              let c = count_done_beyond work.left a.accepted a.got (omega arith) in
              let m = need-mono work.left a.accepted (finished work a + 1) (length before + 1) (omega arith) in
              absurd (omega arith)
        ]

    -- and with fewer the server is active
    pub pending_active : (a : Account W) → IsAwaited a → a.got < goal → is_active (face_of work a) ≡ true
    pending_active a h owes =
        let n = need_job a h in
        let lt = n.0 in
        let e = n.1 in
        let below : finished work a < length a.accepted = elim (cases_lt (length before) (finished work a)) [
          | inl y ↦
              let c = count_done_within work.left a.accepted a.got in
              let m = need-mono work.left a.accepted (length before + 1) (finished work a) (omega arith) in
              absurd (omega arith)
          | inr le ↦ omega arith
        ] in
        grind (arith, nat_tests)

    -- a job after it keeps all this
    pub awaited_job : (now : ℕ) (more : W) (a : Account W) → IsAwaited a → IsAwaited (account_with_job work now more a)
    awaited_job now more a h = record {
      lawful = lawful_job work now more a h.lawful;
      behind = h.behind ++ more ∷ [];
      jobs = let jobs : a.accepted ≡ before ++ job ∷ h.behind = h.jobs in rw jobs (append_assoc before (job ∷ h.behind) (more ∷ []));
      pending = λ owes under.
          let active = pending_active a h owes in
          let same : (account_with_job work now more a).state ≡ a.state = rw active in
          rw same (h.pending owes under);
    }

    -- so does a unit
    pub awaited_unit : (a : Account W) → is_ready (face_of work a) ≡ true → IsAwaited a → IsAwaited (account_with_unit a)
    awaited_unit a ready h = record {
      lawful = lawful_unit work a ready h.lawful;
      behind = h.behind;
      jobs = h.jobs;
      pending = λ owes under.
          let r = a.terms.reservation in
          let t = a.charges.total in
          let e : taken (account_with_unit a) ≡ taken a + 1 = omega arith in
          rw e (covered_unit r (n r t) (b r t) (taken a) a.state a.terms.mode h.lawful.rate h.lawful.state
          (runnable (face_of work a) ready).free (ready_begun work a ready h.lawful) (omega arith) (h.pending (omega arith) (omega arith)));
    }

    -- so does a replenishment
    pub awaited_replenishment : (now : ℕ) (a : Account W) → IsAwaited a → IsAwaited (account_with_replenishment now a)
    awaited_replenishment now a h = record {
      lawful = lawful_replenishment work now a h.lawful;
      behind = h.behind;
      jobs = h.jobs;
      pending = λ owes under. covered_replenishment a.terms.reservation (n a.terms.reservation a.charges.total) (b a.terms.reservation a.charges.total)
          (taken a) a.state now h.lawful.state (h.pending owes under);
    }

    -- so does it that the server is let go
    pub awaited_let_go : (a : Account W) → IsAwaited a → IsAwaited (account_let_go a)
    awaited_let_go a h = record { lawful = lawful_let_go work a h.lawful; behind = h.behind; jobs = h.jobs; pending = h.pending }

    -- so does a charge
    pub awaited_charge : IsGrowing → (m : ℕ) (a : Account W) → 0 < m → a.runs ≡ true → IsAwaited a → IsAwaited (account_with_charge m a)
    awaited_charge grows m a some runs h =
        let r = a.terms.reservation in
        let t = a.charges.total in
        let next = account_with_charge m a in
        let law = h.lawful in
        let is : IsLawful work next = lawful_charge work m a runs law in
        record {
          lawful = is;
          behind = h.behind;
          jobs = h.jobs;
          pending = λ owes under.
              let before = grows.under r t m a.got law.rate.some owes (let e : a.got + t + m ≡ a.got + (t + m) = omega arith in rw e under) in
              let c = grows.grow r t m (taken a) a.state law.rate.some (h.pending owes before) in
              let e : taken next ≡ taken a + m = omega arith in
              rw e (covered_paid r (n r (t + m)) (b r (t + m)) (taken a) m a.state next.state law.rate.some is.state (omega arith)
              (charge_paid a.terms.mode r m a.state law.rate.some law.state law.free) c);
        }

    -- and a close
    pub awaited_close : (a : Account W) → IsAwaited a → IsAwaited (account_with_close a)
    awaited_close a h = record { lawful = lawful_close work a h.lawful; behind = h.behind; jobs = h.jobs; pending = h.pending }

    -- It is finished if b and the while have passed. The premise is that what may still be taken is due later than the
    -- clock but for the while
    pub awaited_finished : (now late : ℕ) (a : Account W) → IsAwaited a → (is_active (face_of work a) ≡ true → now < until a.terms.reservation a.state + late)
        → b a.terms.reservation a.charges.total + late ≤ now → (a.got < goal → taken a < n a.terms.reservation a.charges.total) → length before < finished work a
    awaited_finished now late a h soon past under = done-finished a h (elim (cases_lt a.got goal) [
      | inr done ↦ done
      | inl owes ↦
          let r = a.terms.reservation in
          let t = a.charges.total in
          let few = under owes in
          let all = covered_taken r (n r t) (b r t) (taken a) now late a.state h.lawful.state (h.pending owes few) (soon (pending_active a h owes)) past in
          absurd (omega arith)
    ])

  -- there are as many servers as were given
  pub count_after : (setup : Setup) (L : List (Step W)) → length (after work setup L).accounts ≡ length (given work setup)
  count_after setup L = sym (length-map (after work setup L).accounts (reservation work)) ∙ ap length (rates_after work setup L)

  module _ (setup : Setup) (M : List (Step W)) (s : ℕ) (job : W) (accepted : submit_refusal setup.backlog (faces work (after work setup M)) s ≡ None) where
    abbrev w : World W
    w = after work setup M

    abbrev a : Account W
    a = account w.accounts s

    -- its server is there
    pub place : s < length w.accounts
    place =
        let lt = accepted_within setup.backlog (faces work w) s accepted in
        omega (arith, length-map w.accounts (face_of work))

    -- what the submit leaves of it
    pub submitted : account (after work setup (Submit s job ∷ M)).accounts s ≡ account_with_job work w.now job a
    submitted = rw accepted (changed_here (account_with_job work w.now job) w.accounts s no_account place)

    -- after it, all that the server was asked for is what the job needs beyond the jobs before
    pub total : all (account_with_job work w.now job a) ≡ sum_by work.left a.accepted + work.left job
    total = omega (arith, sum_by-append work.left a.accepted (job ∷ []))

    -- it is awaited after each step, if it is covered from its submit on
    pub awaited_after : (n b : Rate → ℕ → ℕ) → IsGrowing a.accepted job n b → (K : List (Step W)) → IsAdmitted (given work setup)
        → (let c = account_with_job work w.now job a in IsCovered a.terms.reservation (n a.terms.reservation c.charges.total) (b a.terms.reservation c.charges.total) (taken c) c.state)
        → IsAwaited a.accepted job n b (account (after work setup (K ++ Submit s job ∷ M)).accounts s)
    awaited_after n b grows K ok c =
        let law = (AllByRecursion-get (IsSound work (all_periods (given work setup))) w.accounts s no_account
        (sound_after work setup M ok).each place).lawful in
        let start : IsAwaited a.accepted job n b (account_with_job work w.now job a) = record {
          lawful = lawful_job work w.now job a law;
          behind = [];
          jobs = refl;
          pending = λ owes few. c;
        } in
        let at : IsAwaited a.accepted job n b (account (after work setup (Submit s job ∷ M)).accounts s) = rw submitted start in
        holds_behind work (λ now. IsAwaited a.accepted job n b) (λ now. awaited_unit a.accepted job n b) (λ now. awaited_replenishment a.accepted job n b (now + 1))
        (λ now. awaited_close a.accepted job n b) (λ now. awaited_let_go a.accepted job n b) (awaited_job a.accepted job n b)
        (λ now. awaited_charge a.accepted job n b grows) setup K (Submit s job ∷ M) s at

    -- it is finished if it is covered from its submit on, and b and what the others were charged have passed
    pub covered_finished : (n b : Rate → ℕ → ℕ) → IsGrowing a.accepted job n b → (L K : List (Step W)) → L ≡ K ++ Submit s job ∷ M → IsAdmitted (given work setup)
        → AdvanceQuietly work setup L
        → (let c = account_with_job work w.now job a in IsCovered a.terms.reservation (n a.terms.reservation c.charges.total) (b a.terms.reservation c.charges.total) (taken c) c.state)
        → (let v = after work setup L in
        let c = account v.accounts s in
        b c.terms.reservation c.charges.total + others_charges v.accounts s ≤ v.now
        → (c.got < goal a.accepted job n b → taken c < n c.terms.reservation c.charges.total) → length a.accepted < finished work c)
    covered_finished n b grows L K e ok quiet c past under =
        let h = awaited_after n b grows K ok c in
        let there : s < length (after work setup L).accounts = let m = count_after setup L in let k = count_after setup M in let lt = place in omega arith in
        let g : IsAwaited a.accepted job n b (account (after work setup L).accounts s) =
        subst (λ L. IsAwaited a.accepted job n b (account (after work setup L).accounts s)) (sym e) h in
        awaited_finished a.accepted job n b (after work setup L).now (others_charges (after work setup L).accounts s) (account (after work setup L).accounts s) g
        (λ active. due_late work setup L ok quiet s there active) past under

  -- every history keeps its promises, with what is charged counted
  pub charged_promise_kept : (N : History W) → IsAdmitted (given work N.setup) → KeepsChargedPromise work N
  charged_promise_kept N ok = λ quiet K M s job j of enough past.
      let setup = N.setup in
      let w = after work setup M in
      let a = account w.accounts s in
      let c = account_with_job work w.now job a in
      let e = submitted setup M s job of.accepted in
      let t = total setup M s job of.accepted in
      let n = taken c + c.state.budget + j * c.terms.reservation.budget - c.state.overrun in
      let b = c.state.deadline + j * c.terms.reservation.period in
      let law = lawful_job work w.now job a (AllByRecursion-get (IsSound work (all_periods (given work setup))) w.accounts s no_account
      (sound_after work setup M ok).each (place setup M s job of.accepted)).lawful in
      let enough' : all c + (account_in work N s).charges.total + c.state.overrun ≤ taken c + c.state.budget + j * c.terms.reservation.budget = rw e at enough in
      let past' : b + others_charges (world_after work N).accounts s ≤ (world_after work N).now = rw e at past in
      covered_finished setup M s job of.accepted (λ r t. n) (λ r t. b) (record { under = λ r t m got some owes lt. omega arith; grow = λ r t m g s some k. k })
      N.steps K of.steps ok quiet (covered_from c.terms.reservation n j (taken c) c.state law.state (omega arith)) past' (λ owes. omega arith)

  -- so it keeps those of lists without charges
  pub promise_kept : (N : History W) → IsAdmitted (given work N.setup) → KeepsPromise work N
  promise_kept N ok = λ quiet K M s job j of enough late.
      let before = quiet_front work N.setup K (Submit s job ∷ M) (rw of.steps at quiet) in
      let a = uncharged_after work N.setup (Submit s job ∷ M) s before in
      let c = uncharged_after work N.setup N.steps s quiet in
      let o = others_uncharged work N.setup N.steps s quiet in
      let f = a.total in
      let g = a.overrun in
      let h = c.total in
      charged_promise_kept N ok (quiet_advances work N.setup N.steps quiet) K M s job j of (omega arith) (omega arith)

  -- and its bounds
  pub bound_kept : (N : History W) → IsAdmitted (given work N.setup) → KeepsBound work N
  bound_kept N ok = λ quiet K M s job of r late.
      let setup = N.setup in
      let w = after work setup M in
      let a = account w.accounts s in
      let e = submitted setup M s job of.accepted in
      let p = paid_after work setup M s in
      let n = all_needed a in
      let paid = idle_owed a r.idle (omega arith) in
      let small = r.small in
      let busy : (is_active (face_of work a) || a.state.throttled) ≡ false = rw (r.idle, r.free) in
      let new : (account_with_job work w.now job a).state ≡ record a.state { budget = a.terms.reservation.budget; deadline = w.now + a.terms.reservation.period } =
      rw (busy, r.renewed) refl in
      let t = total setup M s job of.accepted in
      promise_kept N ok quiet K M s job 0 of (rw (e, new) (omega arith)) (rw (e, new) (omega arith))
