-- Each move of a simulation keeps what is promised for a server with one source, whose units may overrun.
use Rattle.std.proofs.Common.{◌≡◌, ◌≢◌, ℕ, ◌+◌, ◌-◌, ◌*◌, ◌≤◌, ◌<◌, true, false, eqb, leb, ltb, List, [], ◌∷◌, ◌++◌, length, map, drop, get_or, arith, refl}
use Rattle.std.proofs.Common.{sym, ap, subst, ◌∙◌, inl, inr, Some, None}
use Rattle.std.specs.List.{AllByRecursion}
use Rattle.std.proofs.lemmas.Bool.{cases_Bool, cases_lt}
use Rattle.std.proofs.lemmas.Bool.Decides.{nat_tests}
use Rattle.cbs_job.specs.declared.completion.Completion.{Completion}
use Rattle.cbs_rules.specs.Rules.{clock_end}
use Rattle.cbsrun_simulate.specs.Loading.{loading, job_of}
use Rattle.cbsrun_simulate.specs.Moves.{Move, submit, run, pass, charge, ran_in, Simulation, clock_of, after_move, AreNext}
use Rattle.cbsrun_simulate.specs.MoveLaws.{AllMoves, since_after}
use Rattle.cbsrun_simulate.specs.Releases.{IsInOrder}
use Rattle.cbsrun_simulate.specs.Released.{IsLater, AreApart}
use Rattle.cbsrun_simulate.specs.declared.load_job.LoadJob.{LoadJob}
use Rattle.cbsrun_simulate.specs.declared.release.Release.{Release}
use Rattle.cbsrun_simulate.proofs.Bounded.{IsBounded, IsAfterRun, charge_bounded, charge_after_run, bounded_move, first_coming, granted_none}
use Rattle.cbsrun_simulate.proofs.Clocks.{submit-now}
use Rattle.cbsrun_simulate.proofs.MoveSteps.{IsGoing, MovesWell}
use Rattle.cbsrun_simulate.proofs.Simulations.{well_next}
use Rattle.cbs_steps.specs.Accounts.{Account, need, finished, account_with_unit, account_with_replenishment, account_let_go}
use Rattle.cbs_steps.specs.Charged.{others_charges, IsEndOf}
use Rattle.cbs_steps.specs.Faces.{submit_refusal}
use Rattle.cbs_steps.specs.History.{World, Setup, History, account, faces, chosen, after, charge_refusal, run_reply, world_after, reply_in}
use Rattle.cbs_steps.specs.Promises.{when}
use Rattle.cbs_steps.specs.Quiet.{AdvanceQuietly}
use Rattle.cbs_steps.specs.declared.reply.Reply.TheVariants as reply
use Rattle.cbs_steps.specs.declared.reply.Ran.TheVariants as ran
use Rattle.cbs_steps.specs.declared.step.Step.{Step}
use Rattle.cbs_steps.specs.declared.step.Step.TheVariants.{Submit, Run, Advance, Charge}
use Rattle.cbs_steps.proofs.Promises.{submitted}
use Rattle.cbsrun_simulate.specs.Merging.{order_from}
use Rattle.cbs_lists.proofs.Lists.{AllByRecursion-weaker}
use Rattle.cbsrun_sizing.proofs.Counted.{finished_same, run_here}
use Rattle.cbs_job.specs.Work.{whole}
use Rattle.cbs_guarantee.proofs.Steps.{clock_grows, jobs_given, by_step}
use Rattle.cbs_guarantee.specs.Guarantees.{IsGuaranteed}
use Rattle.cbs_guarantee.specs.Late.{AreInOrder}
use Rattle.cbs_guarantee.specs.Overruns.{units_before, opens_after, AreOverruns, IsAlone}
use Rattle.cbs_guarantee.specs.Streams.{span_of, jobs_of}
use Rattle.cbs_guarantee.proofs.Streams.{reserved, reserved_after}
use Rattle.cbsrun_sizing.specs.Lateness.{IsKeptMove}
use Rattle.cbsrun_sizing.proofs.KeptMoves.{AreNumbered}
use Rattle.cbsrun_sizing.proofs.ServerMoves.{count_of, run_same, advance_same, charge_same, shut, count, submit_shut, submit_elsewhere, charge_most, found}
use Rattle.cbsrun_sizing.proofs.ServerMoves.{done_is, done_there, chosen_owes}

-- no place is told apart
abbrev pub no_place : ℕ → ℕ
no_place i = 0

-- what holds of each of two lists of facts holds of both
all_two : (P Q S : Release → Type 0) (rs : List Release) → AllByRecursion P rs → AllByRecursion Q rs → ((r : Release) → P r → Q r → S r) → AllByRecursion S rs
all_two P Q S [] p q k = tt
all_two P Q S (x ∷ rs) p q k = (k x p.0 q.0, all_two P Q S rs p.1 q.1 k)

-- releases in order from a tick on are not before it
all_from : (now : ℕ) (rs : List Release) → IsInOrder now rs → AllByRecursion (λ r. now ≤ r.tick) rs
all_from now [] order = tt
all_from now (r ∷ rs) order = (order.0, all_from now rs (order_from now r.tick rs order.0 order.1))

module _ (setup : Setup) (s : ℕ) where
  -- a server has got no fewer units than when its last job came
  before_got : (M : List (Step LoadJob)) → units_before loading setup s M ≤ (account (after loading setup M).accounts s).got
  before_got [] = omega arith
  before_got (x ∷ M) = by_step loading setup s (λ L. units_before loading setup s L ≤ (account (after loading setup L).accounts s).got) x M
      (λ job accepted.
      let e = ap (λ (a : Account LoadJob). a.got) (submitted loading setup M s job accepted) in
      let itself : eqb s s ≡ true = grind (arith, nat_tests) in
      let u : units_before loading setup s (Submit s job ∷ M) ≡ (account (after loading setup M).accounts s).got = rw (itself, accepted) refl in
      omega (arith, e, u))
      (λ n charged.
      let c = charge_same (λ (a : Account LoadJob). a.got) (λ now a. refl) (λ a. refl) (λ n a. refl) setup.backlog (after loading setup M) s n s in
      rw c (before_got M))
      (λ other moves. let u = other.units in rw u (moves (λ a. units_before loading setup s M ≤ a.got) (λ a ready h. omega arith) (λ now a h. h) (λ a h. h) (λ a h. h)
      (before_got M)))

  -- the account of the server that ran
  run_is : (B : List (Step LoadJob)) → (after loading setup B).now < clock_end → chosen loading (after loading setup B) ≡ Some s → s < length setup.servers
      → account (after loading setup (Run ∷ B)).accounts s
      ≡ account_with_replenishment ((after loading setup B).now + 1) (account_with_unit (account_let_go (account (after loading setup B).accounts s)))
  run_is B early e lt =
      let w = after loading setup B in
      let y : ltb w.now clock_end ≡ true = grind (arith, nat_tests) in
      let there : s < length w.accounts = omega (arith, count_of setup B) in
      rw (y, e) (run_here w s there)

module _ (until : ℕ) (ends : until ≤ clock_end) (s : ℕ) (released every b : ℕ → ℕ) (units overrun distance passed delay : ℕ) (IsTheSource : ℕ → Type 0) where
  -- the ticks between submits
  abbrev pub apart_by : ℕ
  apart_by = distance - passed

  -- the release is one of the source
  pub record IsAloneRelease (r : Release) : Type 0 where
    pub source_is : IsTheSource r.source
    pub every_is : every r.source ≡ distance
    pub some : 0 < r.units
    pub few : r.units ≤ units

  -- what the source, the servers and the bounds keep
  pub record IsGivenAlone (setup : Setup) : Type 0 where
    pub order : AreInOrder released
    pub laws : (steps : List (Step LoadJob)) → IsGuaranteed loading (record { setup = setup; steps = steps })
    pub most : (t : ℕ) → t ≢ s → b t ≤ passed
    pub mine : b s ≤ overrun
    pub others : (w : World LoadJob) → length w.accounts ≡ length setup.servers → ((t : ℕ) → (account w.accounts t).charges.most ≤ b t)
        → others_charges w.accounts s ≤ delay
    pub fits : span_of (reserved loading setup s) (units * (1 + overrun)) + delay + passed ≤ distance
    pub backlog : 0 < setup.backlog
    pub there : s < length setup.servers
    pub only : (i j : ℕ) → IsTheSource i → IsTheSource j → i ≡ j

  -- each job of server s was submitted soon after its release
  abbrev pub IsSoonStep : Setup → List (Step LoadJob) → Step LoadJob → Type 0
  IsSoonStep setup M (Submit t job) = t ≡ s → submit_refusal setup.backlog (faces loading (after loading setup M)) t ≡ None
      → (after loading setup M).now ≤ released (jobs_of loading setup s M) + passed
  IsSoonStep setup M _ = Unit {0}

  abbrev pub AreSoon : Setup → List (Step LoadJob) → Type 0
  AreSoon setup [] = Unit {0}
  AreSoon setup (x ∷ M) = AreSoon setup M × IsSoonStep setup M x

  soon_front : (setup : Setup) (K L : List (Step LoadJob)) → AreSoon setup (K ++ L) → AreSoon setup L
  soon_front setup [] L are = are
  soon_front setup (x ∷ K) L are = soon_front setup K L are.0

  -- a release to come is after the last job, and not late yet
  pub record IsNext (setup : Setup) (M : List (Step LoadJob)) (r : Release) : Type 0 where
    pub opened : opens_after loading setup s apart_by M ≤ r.tick
    pub later : 0 < jobs_of loading setup s M → released (jobs_of loading setup s M - 1) + distance ≤ r.tick
    pub soon : (after loading setup M).now ≤ r.tick + passed

  -- where a simulation stands
  pub record IsAloneKept (since : ℕ) (sim : Simulation LoadJob) : Type 0 where
    pub going : IsGoing loading job_of until ends since sim
    pub bounded : IsBounded b until sim
    pub free : (account (world_after loading sim.history).accounts s).closed ≡ false
    pub quiet : AdvanceQuietly loading sim.history.setup sim.history.steps
    pub are : AreOverruns loading sim.history.setup s apart_by units overrun sim.history.steps
    pub soon : AreSoon sim.history.setup sim.history.steps
    pub jobs : AreNumbered s released no_place no_place (jobs_of loading sim.history.setup s sim.history.steps) sim.coming
    pub apart : AreApart every sim.coming
    pub next : AllByRecursion (λ r. r.server ≡ s → IsNext sim.history.setup sim.history.steps r) sim.coming
    pub own : AllByRecursion (λ r. r.server ≡ s → IsAloneRelease r) sim.coming

  -- within so many ticks of its release each job ends
  abbrev pub time : Setup → ℕ
  time setup = span_of (reserved loading setup s) (units * (1 + overrun)) + delay + passed

  -- after these steps the laws hold
  module _ (setup : Setup) (M : List (Step LoadJob)) (given : IsGivenAlone setup) (bounds : (t : ℕ) → (account (after loading setup M).accounts t).charges.most ≤ b t)
      (quiet : AdvanceQuietly loading setup M) (are : AreOverruns loading setup s apart_by units overrun M) (soon : AreSoon setup M) where
    abbrev N : History LoadJob
    N = record { setup = setup; steps = M }

    others_charged : others_charges (after loading setup M).accounts s ≤ delay
    others_charged = given.others (after loading setup M) (count_of setup M) bounds

    alone : IsAlone loading N s (units * (1 + overrun)) apart_by delay
    alone =
        let fits = given.fits in
        let e = reserved_after loading setup s M in
        let room : span_of (account (after loading setup M).accounts s).terms.reservation (units * (1 + overrun)) + delay ≤ apart_by = rw e (omega arith) in
        record { stream = (given.laws M).units quiet s units overrun apart_by delay are others_charged room; others = others_charged; apart = room }

    -- a job that just ended, with its charge, ended in time
    ends_soon : (C K L : List (Step LoadJob)) (job : LoadJob) → IsEndOf loading N C K L s job → (after loading setup M).now ≤ released (jobs_of loading setup s L) + time setup
    ends_soon C K L job end =
        let e = reserved_after loading setup s M in
        let by = rw e at ((given.laws M).overrun_ends quiet s (units * (1 + overrun)) apart_by delay alone C K L job end) in
        let front = soon_front setup (C ++ Run ∷ K) (Submit s job ∷ L) (subst (λ A. AreSoon setup A) end.job_of.steps soon) in
        let late = front.1 refl end.job_of.accepted in
        let others = others_charged in
        omega arith

    -- the clock is early for a job that is not finished
    early_for : (K L : List (Step LoadJob)) (job : LoadJob) → M ≡ K ++ Submit s job ∷ L
        → submit_refusal setup.backlog (faces loading (after loading setup L)) s ≡ None
        → finished loading (account (after loading setup M).accounts s) ≤ jobs_of loading setup s L
        → (after loading setup M).now ≤ released (jobs_of loading setup s L) + time setup
    early_for K L job steps accepted open_job =
        let e = reserved_after loading setup s M in
        let front = soon_front setup K (Submit s job ∷ L) (subst (λ A. AreSoon setup A) steps soon) in
        let late = front.1 refl accepted in
        let others = others_charged in
        elim (cases_lt (released (jobs_of loading setup s L) + time setup) (after loading setup M).now) [
          | inr ge ↦ ge
          | inl lt ↦
              let done = (given.laws M).overruns quiet s (units * (1 + overrun)) apart_by delay alone K L job (record { steps = steps; accepted = accepted })
              (rw e (omega arith)) in
              absurd (omega arith)
        ]

  -- a charge of the server after its run ends in time for the job that got the unit
  charge_time : (setup : Setup) (M B : List (Step LoadJob)) (n : ℕ) → M ≡ Run ∷ B → IsGivenAlone setup
      → ((t : ℕ) → (account (after loading setup (Charge s n ∷ M)).accounts t).charges.most ≤ b t)
      → AdvanceQuietly loading setup (Charge s n ∷ M) → AreOverruns loading setup s apart_by units overrun (Charge s n ∷ M) → AreSoon setup (Charge s n ∷ M)
      → (after loading setup B).now < clock_end → chosen loading (after loading setup B) ≡ Some s
      → (let k = finished loading (account (after loading setup B).accounts s) in
      ((after loading setup (Charge s n ∷ M)).now ≤ released k + time setup) × (k < jobs_of loading setup s B))
  charge_time setup M B n e given bounds quiet are soon early server =
      let w = after loading setup B in
      let a = account w.accounts s in
      let k = finished loading a in
      let owes = chosen_owes w s server in
      let f = found setup s B k owes in
      let L = Charge s n ∷ M in
      let steps : L ≡ Charge s n ∷ Run ∷ (f.since ++ Submit s f.job ∷ f.before) = ap (λ A. Charge s n ∷ A) (e ∙ ap (λ A. Run ∷ A) f.steps) in
      let N : History LoadJob = record { setup = setup; steps = L } in
      let later : leb clock_end w.now ≡ false = grind (arith, nat_tests) in
      let at : (after loading setup L).now ≤ released (jobs_of loading setup s f.before) + time setup =
      elim (cases_Bool (eqb (need loading a (k + 1)) (a.got + 1))) [
        | inl done ↦
            let result = get_or (map (whole loading) a.accepted) k 0 in
            let c : Completion = record { server = s; seq = jobs_of loading setup s f.before; result = result } in
            let told : run_reply loading w (chosen loading w) ≡ ran.Done c = rw (server, later, done, f.number) refl in
            let ended : IsEndOf loading N (Charge s n ∷ []) f.since f.before s f.job = record {
              job_of = record { steps = steps; accepted = f.accepted };
              result = result;
              done = subst (λ A. reply_in loading (when N A) Run ≡ reply.Ran (ran.Done c)) f.steps (ap reply.Ran told);
              charges = (refl, tt);
            } in
            ends_soon setup L given bounds quiet are soon (Charge s n ∷ []) f.since f.before f.job ended
        | inr more ↦
            let charged = charge_same (finished loading) (λ now a. refl) (λ a. refl) (λ n a. refl) setup.backlog (after loading setup M) s n s in
            let ran_so = ap (λ A. finished loading (account (after loading setup A).accounts s)) e ∙ ap (finished loading) (run_is setup s B early server given.there) in
            let same = finished_same a owes more in
            let open_job : finished loading (account (after loading setup L).accounts s) ≤ jobs_of loading setup s f.before = omega (arith, charged, ran_so, same, f.number) in
            early_for setup L given bounds quiet are soon (Charge s n ∷ Run ∷ f.since) f.before f.job steps f.accepted open_job
      ] in
      (rw f.number at at, owes)

  module _ (since : ℕ) (sim : Simulation LoadJob) (given : IsGivenAlone sim.history.setup) (h : IsAloneKept since sim) where
    abbrev setup_of : Setup
    setup_of = sim.history.setup

    abbrev M_of : List (Step LoadJob)
    M_of = sim.history.steps

    abbrev w_of : World LoadJob
    w_of = world_after loading sim.history

    abbrev q_of : ℕ
    q_of = jobs_of loading setup_of s M_of

    -- a submit to the server is accepted
    alone_accepted : (r : Release) (rest : List Release) → sim.coming ≡ r ∷ rest → r.server ≡ s → r.tick ≤ w_of.now
        → submit_refusal setup_of.backlog (faces loading w_of) s ≡ None
    alone_accepted r rest e same come =
        let next = (rw e at h.next).0 same in
        let opened = next.opened in
        let alone_is = alone setup_of M_of given (λ t. (h.bounded.within t).1) h.quiet h.are h.soon in
        (given.laws M_of).accepting_overruns h.quiet s (units * (1 + overrun)) apart_by delay alone_is given.backlog (omega arith) h.free

    -- a release after another of the source is after its job
    next_own : (r : Release) (rest : List Release) → sim.coming ≡ r ∷ rest → r.server ≡ s → r.tick ≤ w_of.now → (p : Release) → IsLater every r p
        → IsNext setup_of M_of p → IsAloneRelease p → IsNext setup_of (Submit r.server (job_of r) ∷ M_of) p
    next_own r rest e same come p later before its =
        let yes = alone_accepted r rest e same come in
        let itself : eqb s s ≡ true = grind (arith, nat_tests) in
        let next = (rw e at h.next).0 same in
        let own = (rw e at h.own).0 same in
        let jobs = (rw e at h.jobs).0 same in
        let tick = jobs.0 in
        let late = next.soon in
        let fits = given.fits in
        let source_same : p.source ≡ r.source = given.only p.source r.source its.source_is own.source_is in
        let after_it = later source_same in
        let far = own.every_is in
        let count : jobs_of loading setup_of s (Submit r.server (job_of r) ∷ M_of) ≡ q_of + 1 = rw same (jobs_given loading setup_of s M_of (job_of r) yes) in
        let opens : opens_after loading setup_of s apart_by (Submit r.server (job_of r) ∷ M_of) ≡ w_of.now + apart_by = rw same (rw (itself, yes) refl) in
        let stands = submit-now loading setup_of.backlog w_of r.server (job_of r) in
        let soon = before.soon in
        let number : q_of + 1 - 1 ≡ q_of = omega arith in
        let close : released q_of + distance ≤ p.tick = omega arith in
        record {
          opened = rw opens (omega arith);
          later = λ some. rw (count, number) close;
          soon = omega arith;
        }

    -- a release after one of another server is as before
    next_other : (r : Release) → r.server ≢ s → (p : Release) → IsNext setup_of M_of p → IsNext setup_of (Submit r.server (job_of r) ∷ M_of) p
    next_other r ne p before =
        let n : eqb r.server s ≡ false = grind (arith, nat_tests) in
        let there = submit_elsewhere w_of s r.server (job_of r) (submit_refusal setup_of.backlog (faces loading w_of) r.server) ne in
        let jobs : jobs_of loading setup_of s (Submit r.server (job_of r) ∷ M_of) ≡ q_of = ap (λ (a : Account LoadJob). length a.accepted) there in
        let opens : opens_after loading setup_of s apart_by (Submit r.server (job_of r) ∷ M_of) ≡ opens_after loading setup_of s apart_by M_of = rw n refl in
        let stands = submit-now loading setup_of.backlog w_of r.server (job_of r) in
        let soon = before.soon in
        record { opened = rw opens before.opened; later = rw jobs before.later; soon = omega arith }

    -- what comes after the first release
    abbrev IsAloneRest : Simulation LoadJob → Type 0
    IsAloneRest next = AreNumbered s released no_place no_place (jobs_of loading setup_of s next.history.steps) next.coming × AreApart every next.coming
        × AllByRecursion (λ r. r.server ≡ s → IsNext setup_of next.history.steps r) next.coming × AllByRecursion (λ r. r.server ≡ s → IsAloneRelease r) next.coming

    alone_rest : (r : Release) (rest : List Release) → sim.coming ≡ r ∷ rest → r.tick ≤ w_of.now → IsAloneRest (after_move loading job_of sim (submit r))
    alone_rest r rest e come =
        let jobs : AreNumbered s released no_place no_place q_of (r ∷ rest) = rw e at h.jobs in
        let apart : AreApart every (r ∷ rest) = rw e at h.apart in
        let next : AllByRecursion (λ r. r.server ≡ s → IsNext setup_of M_of r) (r ∷ rest) = rw e at h.next in
        let own : AllByRecursion (λ r. r.server ≡ s → IsAloneRelease r) (r ∷ rest) = rw e at h.own in
        let L = Submit r.server (job_of r) ∷ M_of in
        elim (cases_Bool (eqb r.server s)) [
          | inl y ↦
              let same : r.server ≡ s = grind (arith, nat_tests) in
              let yes = alone_accepted r rest e same come in
              let count : jobs_of loading setup_of s L ≡ q_of + 1 = rw same (jobs_given loading setup_of s M_of (job_of r) yes) in
              let both = all_two (λ p. p.server ≡ s → IsNext setup_of M_of p) (λ p. p.server ≡ s → IsAloneRelease p)
              (λ p. p.server ≡ s → IsNext setup_of M_of p × IsAloneRelease p) rest next.1 own.1 (λ p a b ours. (a ours, b ours)) in
              let after_it = all_two (IsLater every r) (λ p. p.server ≡ s → IsNext setup_of M_of p × IsAloneRelease p) (λ p. p.server ≡ s → IsNext setup_of L p) rest
              apart.0 both (λ p later k ours. next_own r rest e same come p later (k ours).0 (k ours).1) in
              let numbers : AreNumbered s released no_place no_place (q_of + 1) rest = rw y at jobs.1 in
              rw (e, count) (numbers, apart.1, after_it, own.1)
          | inr n ↦
              let ne : r.server ≢ s = λ same. let y : eqb r.server s ≡ true = grind (arith, nat_tests) in cc in
              let there = submit_elsewhere w_of s r.server (job_of r) (submit_refusal setup_of.backlog (faces loading w_of) r.server) ne in
              let count : jobs_of loading setup_of s L ≡ q_of = ap (λ (a : Account LoadJob). length a.accepted) there in
              let after_it = all_two (λ p. p.server ≡ s → IsNext setup_of M_of p) (λ p. p.server ≡ s → IsAloneRelease p) (λ p. p.server ≡ s → IsNext setup_of L p) rest
              next.1 own.1 (λ p k its ours. next_other r ne p (k ours)) in
              let numbers : AreNumbered s released no_place no_place q_of rest = rw n at jobs.1 in
              rw (e, count) (numbers, apart.1, after_it, own.1)
        ]

    -- a step that is no submit keeps what is to come, if the clock is early
    still_next : (x : Step LoadJob) → opens_after loading setup_of s apart_by (x ∷ M_of) ≡ opens_after loading setup_of s apart_by M_of
        → jobs_of loading setup_of s (x ∷ M_of) ≡ q_of → AllByRecursion (λ r. r.server ≡ s → (after loading setup_of (x ∷ M_of)).now ≤ r.tick + passed) sim.coming
        → AllByRecursion (λ r. r.server ≡ s → IsNext setup_of (x ∷ M_of) r) sim.coming
    still_next x opens jobs early = all_two (λ r. r.server ≡ s → (after loading setup_of (x ∷ M_of)).now ≤ r.tick + passed) (λ r. r.server ≡ s → IsNext setup_of M_of r)
        (λ r. r.server ≡ s → IsNext setup_of (x ∷ M_of) r) sim.coming early h.next
        (λ r clock before ours. record { opened = rw opens (before ours).opened; later = rw jobs (before ours).later; soon = clock ours })

  module _ (since : ℕ) (sim : Simulation LoadJob) (given : IsGivenAlone sim.history.setup) (h : IsAloneKept since sim) where
    -- after a submit
    alone_submit : (r : Release) → MovesWell loading job_of until ends since sim (submit r) → IsAloneKept since (after_move loading job_of sim (submit r))
    alone_submit r well =
        let w = world_after loading sim.history in
        let e = first_coming until sim.coming r _ well.submits in
        let come = well.on_tick.1 in
        let rest = alone_rest since sim given h r (drop 1 sim.coming) e come in
        let next : AllByRecursion (λ r. r.server ≡ s → IsNext sim.history.setup sim.history.steps r) (r ∷ drop 1 sim.coming) = rw e at h.next in
        let own : AllByRecursion (λ r. r.server ≡ s → IsAloneRelease r) (r ∷ drop 1 sim.coming) = rw e at h.own in
        let jobs : AreNumbered s released no_place no_place (jobs_of loading sim.history.setup s sim.history.steps) (r ∷ drop 1 sim.coming) = rw e at h.jobs in
        record {
          going = well.going;
          bounded = bounded_move b until ends since sim (submit r) well h.bounded;
          free = submit_shut w s r.server (job_of r) (submit_refusal sim.history.setup.backlog (faces loading w) r.server) ∙ h.free;
          quiet = (h.quiet, well.quiet);
          are = (h.are, λ same accepted. let opened = (next.0 same).opened in ((own.0 same).few, omega arith));
          soon = (h.soon, λ same accepted. let late = (next.0 same).soon in let tick = (jobs.0 same).0 in omega arith);
          jobs = rest.0;
          apart = rest.1;
          next = rest.2;
          own = rest.3;
        }

    -- the next releases are not before the clock
    clock_first : (m : Move) → MovesWell loading job_of until ends since sim m → since_after loading job_of since sim m ≡ clock_of loading job_of (after_move loading job_of sim m)
        → (after_move loading job_of sim m).coming ≡ sim.coming
        → AllByRecursion (λ r. r.server ≡ s → clock_of loading job_of (after_move loading job_of sim m) ≤ r.tick + passed) sim.coming
    clock_first m well now same =
        let c = clock_of loading job_of (after_move loading job_of sim m) in
        let order : IsInOrder c sim.coming = rw (now, same) at well.going.order in
        AllByRecursion-weaker (λ r. c ≤ r.tick) (λ r. r.server ≡ s → c ≤ r.tick + passed) sim.coming (all_from c sim.coming order) (λ r le ours. omega arith)

    alone_run : MovesWell loading job_of until ends since sim run → IsAloneKept (clock_of loading job_of (after_move loading job_of sim run)) (after_move loading job_of sim run)
    alone_run well =
        let w = world_after loading sim.history in
        let jobs = run_same count (λ now a. refl) (λ a. refl) (λ a. refl) sim.history.setup.backlog w s in
        record {
          going = well.going;
          bounded = bounded_move b until ends since sim run well h.bounded;
          free = run_same shut (λ now a. refl) (λ a. refl) (λ a. refl) sim.history.setup.backlog w s ∙ h.free;
          quiet = (h.quiet, well.quiet);
          are = (h.are, tt);
          soon = (h.soon, tt);
          jobs = rw jobs h.jobs;
          apart = h.apart;
          next = still_next since sim given h Run refl jobs (clock_first run well refl refl);
          own = h.own;
        }

    alone_pass : (n : ℕ) → MovesWell loading job_of until ends since sim (pass n)
        → IsAloneKept (clock_of loading job_of (after_move loading job_of sim (pass n))) (after_move loading job_of sim (pass n))
    alone_pass n well =
        let w = world_after loading sim.history in
        let jobs = advance_same count (λ now a. refl) (λ a. refl) sim.history.setup.backlog w n s in
        record {
          going = well.going;
          bounded = bounded_move b until ends since sim (pass n) well h.bounded;
          free = advance_same shut (λ now a. refl) (λ a. refl) sim.history.setup.backlog w n s ∙ h.free;
          quiet = (h.quiet, well.quiet);
          are = (h.are, tt);
          soon = (h.soon, tt);
          jobs = rw jobs h.jobs;
          apart = h.apart;
          next = still_next since sim given h (Advance n) refl jobs (clock_first (pass n) well refl refl);
          own = h.own;
        }

    -- what a charge of the server leaves: in time for the job that got the unit, which came before all that are to come
    pub record IsOwnCharge (n : ℕ) : Type 0 where
      pub ran : IsAfterRun sim s
      pub early : (after loading sim.history.setup ran.before).now < clock_end
      pub are : AreOverruns loading sim.history.setup s apart_by units overrun (Charge s n ∷ sim.history.steps)
      pub soon : clock_of loading job_of (after_move loading job_of sim (charge s n))
          ≤ released (finished loading (account (after loading sim.history.setup ran.before).accounts s)) + time sim.history.setup
      pub there : finished loading (account (after loading sim.history.setup ran.before).accounts s) < jobs_of loading sim.history.setup s sim.history.steps

    own_charge : (n : ℕ) → MovesWell loading job_of until ends since sim (charge s n) → IsOwnCharge n
    own_charge n well =
        let setup = sim.history.setup in
        let M = sim.history.steps in
        let ran = charge_after_run b until sim s n well.charges h.bounded in
        let B = ran.before in
        let k = charge_bounded b until sim s n well.charges h.bounded in
        let fewer = well.fewer in
        let now_is : (after loading setup M).now ≡ (after loading setup (Run ∷ B)).now = ap (λ A. (after loading setup A).now) ran.steps in
        let grows = clock_grows loading setup.backlog (after loading setup B) Run in
        let early : (after loading setup B).now < clock_end = omega arith in
        let is = run_is setup s B early ran.server given.there in
        let got : (account (after loading setup M).accounts s).got ≡ (account (after loading setup B).accounts s).got + 1 =
        ap (λ A. (account (after loading setup A).accounts s).got) ran.steps ∙ ap (λ (a : Account LoadJob). a.got) is in
        let units_are : units_before loading setup s M ≡ units_before loading setup s B = ap (λ A. units_before loading setup s A) ran.steps in
        let before = before_got setup s B in
        let jobs : jobs_of loading setup s M ≡ jobs_of loading setup s B = ap (λ A. jobs_of loading setup s A) ran.steps ∙ ap (λ (a : Account LoadJob). length a.accepted) is in
        let mine = given.mine in
        let le = k.0 in
        let fresh = k.1 in
        let are : AreOverruns loading setup s apart_by units overrun (Charge s n ∷ M) = (h.are, λ same granted. (λ some. omega arith, omega arith)) in
        let bounds = bounded_move b until ends since sim (charge s n) well h.bounded in
        let in_time = charge_time setup M B n ran.steps given (λ u. (bounds.within u).1) (h.quiet, well.quiet) are (h.soon, tt) early ran.server in
        let less = in_time.1 in
        record { ran = ran; early = early; are = are; soon = in_time.0; there = omega arith }

    alone_own_charge : (n : ℕ) → MovesWell loading job_of until ends since sim (charge s n)
        → IsAloneKept (clock_of loading job_of sim) (after_move loading job_of sim (charge s n))
    alone_own_charge n well =
        let w = world_after loading sim.history in
        let own = own_charge n well in
        let jobs = charge_same count (λ now a. refl) (λ a. refl) (λ n a. refl) sim.history.setup.backlog w s n s in
        let q = jobs_of loading sim.history.setup s sim.history.steps in
        let k = finished loading (account (after loading sim.history.setup own.ran.before).accounts s) in
        let less = own.there in
        let soon = own.soon in
        let fits = given.fits in
        let order = given.order k (q - 1) (omega arith) in
        let early = AllByRecursion-weaker (λ r. r.server ≡ s → IsNext sim.history.setup sim.history.steps r)
        (λ r. r.server ≡ s → clock_of loading job_of (after_move loading job_of sim (charge s n)) ≤ r.tick + passed) sim.coming h.next
        (λ r before ours. let later = (before ours).later (omega arith) in omega arith) in
        record {
          going = well.going;
          bounded = bounded_move b until ends since sim (charge s n) well h.bounded;
          free = charge_same shut (λ now a. refl) (λ a. refl) (λ n a. refl) sim.history.setup.backlog w s n s ∙ h.free;
          quiet = (h.quiet, well.quiet);
          are = own.are;
          soon = (h.soon, tt);
          jobs = rw jobs h.jobs;
          apart = h.apart;
          next = still_next since sim given h (Charge s n) refl jobs early;
          own = h.own;
        }

    alone_other_charge : (t n : ℕ) → t ≢ s → MovesWell loading job_of until ends since sim (charge t n)
        → IsAloneKept (clock_of loading job_of sim) (after_move loading job_of sim (charge t n))
    alone_other_charge t n ne well =
        let w = world_after loading sim.history in
        let jobs = charge_same count (λ now a. refl) (λ a. refl) (λ n a. refl) sim.history.setup.backlog w t n s in
        let less = (charge_bounded b until sim t n well.charges h.bounded).0 in
        let most = given.most t ne in
        let clock = charge_most sim.history.setup.backlog w t n (granted_none (charge_refusal w t n) well.charges.granted) in
        let early = AllByRecursion-weaker (λ r. w.now ≤ r.tick)
        (λ r. r.server ≡ s → clock_of loading job_of (after_move loading job_of sim (charge t n)) ≤ r.tick + passed) sim.coming
        (all_from w.now sim.coming well.going.order) (λ r le ours. omega arith) in
        record {
          going = well.going;
          bounded = bounded_move b until ends since sim (charge t n) well h.bounded;
          free = charge_same shut (λ now a. refl) (λ a. refl) (λ n a. refl) sim.history.setup.backlog w t n s ∙ h.free;
          quiet = (h.quiet, well.quiet);
          are = (h.are, λ same. absurd (ne same));
          soon = (h.soon, tt);
          jobs = rw jobs h.jobs;
          apart = h.apart;
          next = still_next since sim given h (Charge t n) refl jobs early;
          own = h.own;
        }

    -- a unit that finishes a job of the server ends it in time
    alone_end : (later : ℕ) → IsAloneKept later (after_move loading job_of sim run) → (c : Completion)
        → ran_in (reply_in loading sim.history Run) ≡ ran.Done c → c.server ≡ s
        → clock_of loading job_of (after_move loading job_of sim run) ≤ released c.seq + time sim.history.setup
    alone_end later k c told same =
        let setup = sim.history.setup in
        let M = sim.history.steps in
        let w = world_after loading sim.history in
        let N : History LoadJob = record { setup = setup; steps = Run ∷ M } in
        let lt : c.seq < length (account w.accounts s).accepted = rw same at (done_there w c told) in
        let f = found setup s M c.seq lt in
        let is : c ≡ record { server = s; seq = jobs_of loading setup s f.before; result = c.result } = rw (f.number, ← same) refl in
        let d : Completion = record { server = s; seq = jobs_of loading setup s f.before; result = c.result } in
        let ended : IsEndOf loading N [] f.since f.before s f.job = record {
          job_of = record { steps = ap (λ L. Run ∷ L) f.steps; accepted = f.accepted };
          result = c.result;
          done = subst (λ L. reply_in loading (when N L) Run ≡ reply.Ran (ran.Done d)) f.steps (ap reply.Ran (told ∙ ap ran.Done is));
          charges = tt;
        } in
        let by = ends_soon setup (Run ∷ M) given (λ u. (k.bounded.within u).1) k.quiet k.are k.soon [] f.since f.before f.job ended in
        rw f.number at by

  -- each move keeps where the simulation stands
  alone_move : (since : ℕ) (sim : Simulation LoadJob) (m : Move) → IsGivenAlone sim.history.setup → MovesWell loading job_of until ends since sim m
      → IsAloneKept since sim → IsAloneKept (since_after loading job_of since sim m) (after_move loading job_of sim m)
  alone_move since sim (submit r) given well h = alone_submit since sim given h r well
  alone_move since sim run given well h = alone_run since sim given h well
  alone_move since sim (pass n) given well h = alone_pass since sim given h n well
  alone_move since sim (charge t n) given well h = elim (cases_Bool (eqb t s)) [
    | inl y ↦ let same : t ≡ s = grind (arith, nat_tests) in rw same (alone_own_charge since sim given h n (rw same at well))
    | inr f ↦
        let ne : t ≢ s = λ same. let y : eqb t s ≡ true = grind (arith, nat_tests) in cc in
        alone_other_charge since sim given h t n ne well
  ]

  -- and does what was promised
  alone_here : (since : ℕ) (sim : Simulation LoadJob) (m : Move) → IsGivenAlone sim.history.setup → MovesWell loading job_of until ends since sim m
      → IsAloneKept since sim → IsAloneKept (since_after loading job_of since sim m) (after_move loading job_of sim m)
      → IsKeptMove s released (time sim.history.setup) sim m
  alone_here since sim (submit r) given well h k = λ same.
      let e = first_coming until sim.coming r _ well.submits in
      let jobs : AreNumbered s released no_place no_place (jobs_of loading sim.history.setup s sim.history.steps) (r ∷ drop 1 sim.coming) = rw e at h.jobs in
      let own : AllByRecursion (λ r. r.server ≡ s → IsAloneRelease r) (r ∷ drop 1 sim.coming) = rw e at h.own in
      (alone_accepted since sim given h r (drop 1 sim.coming) e same well.on_tick.1, (jobs.0 same).0, (own.0 same).some)
  alone_here since sim run given well h k = λ c told same. alone_end since sim given h _ k c told same
  alone_here since sim (pass n) given well h k = tt
  alone_here since sim (charge t n) given well h k = λ same. rw same (
      let own = own_charge since sim given h n (rw same at well) in
      let w = after loading sim.history.setup own.ran.before in
      record {
        before = own.ran.before;
        steps = own.ran.steps;
        server = own.ran.server;
        early = own.early;
        soon = λ c told.
            let is = done_is w (chosen loading w) c told in
            let both : Some s ≡ Some c.server = sym own.ran.server ∙ is.0 in
            let server : s ≡ c.server = cc in
            let seq : c.seq ≡ finished loading (account w.accounts s) = rw (← server) at is.1 in
            rw seq own.soon;
      })

  pub alone_moves : (since : ℕ) (sim : Simulation LoadJob) (ms : List Move) → IsGivenAlone sim.history.setup → IsAloneKept since sim
      → AreNext loading job_of until sim ms → AllMoves loading job_of (IsKeptMove s released (time sim.history.setup)) sim ms
  alone_moves since sim [] given h each = tt
  alone_moves since sim (m ∷ ms) given h each =
      let well = well_next loading job_of until ends since sim m h.going each.0 in
      let next = alone_move since sim m given well h in (
        alone_here since sim m given well h next,
        alone_moves (since_after loading job_of since sim m) (after_move loading job_of sim m) ms given next each.1,
      )
