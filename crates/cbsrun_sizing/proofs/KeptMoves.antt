-- Each move of a simulation keeps what is promised for a server whose units never overrun.
use Rattle.std.proofs.Common.{◌≡◌, ◌≢◌, ℕ, ◌+◌, ◌≤◌, ◌<◌, true, false, eqb, List, [], ◌∷◌, ◌++◌, length, drop, get_or, arith, refl, sym, ap, subst, ◌∙◌, inl}
use Rattle.std.proofs.Common.{inr, None}
use Rattle.std.specs.Prelude.{if◌then◌else◌}
use Rattle.std.specs.List.{AllByRecursion}
use Rattle.std.proofs.Math.ListN.{get_or-map}
use Rattle.std.proofs.lemmas.Bool.{cases_Bool}
use Rattle.std.proofs.lemmas.Bool.Decides.{nat_tests}
use Rattle.std.proofs.lemmas.List.{length-map}
use Rattle.cbs_lists.specs.Lists.{changed_at}
use Rattle.cbs_lists.proofs.Lists.{changed_here, changed_elsewhere, AllByRecursion-weaker}
use Rattle.cbs_rate.specs.Rate.{Rate}
use Rattle.cbs_rules.specs.Rules.{clock_end}
use Rattle.cbs_steps.specs.Charged.{others_charges, IsEndOf}
use Rattle.cbs_steps.specs.Faces.{submit_refusal}
use Rattle.cbs_steps.specs.History.{World, Setup, History, account, faces, charge_refusal, world_after, reply_in}
use Rattle.cbs_steps.specs.Promises.{when}
use Rattle.cbs_steps.specs.Quiet.{AdvanceQuietly}
use Rattle.cbs_steps.specs.declared.reply.Reply.TheVariants as reply
use Rattle.cbs_steps.specs.declared.reply.Ran.TheVariants as ran
use Rattle.cbs_steps.specs.declared.step.Step.{Step}
use Rattle.cbs_steps.specs.declared.step.Step.TheVariants.{Submit, Run}
use Rattle.cbs_guarantee.specs.Guarantees.{IsGuaranteed}
use Rattle.cbs_guarantee.specs.Late.{AreInOrder, released_after, IsReleasedJob, AreReleased}
use Rattle.cbs_guarantee.specs.Streams.{Stream, no_stream, came, span_of, IsBearable, all_spans, backlog_for, jobs_of}
use Rattle.cbs_guarantee.proofs.Late.{late_after}
use Rattle.cbs_guarantee.proofs.Steps.{jobs_given}
use Rattle.cbs_guarantee.proofs.Streams.{reserved, reserved_after}
use Rattle.cbsrun_simulate.specs.Loading.{loading, job_of}
use Rattle.cbsrun_simulate.specs.Moves.{Move, submit, run, pass, charge, ran_in, Simulation, clock_of, after_move, AreNext}
use Rattle.cbsrun_simulate.specs.MoveLaws.{AllMoves, since_after}
use Rattle.cbsrun_simulate.specs.Released.{IsLater, AreApart}
use Rattle.cbsrun_simulate.specs.declared.load_job.LoadJob.{LoadJob}
use Rattle.cbsrun_simulate.specs.declared.release.Release.{Release}
use Rattle.cbsrun_simulate.proofs.Bounded.{IsBounded, charge_bounded, bounded_move, first_coming, granted_none}
use Rattle.cbsrun_simulate.proofs.Clocks.{submit-now}
use Rattle.cbsrun_simulate.proofs.MoveSteps.{IsGoing, MovesWell}
use Rattle.cbsrun_simulate.proofs.Simulations.{well_next}
use Rattle.cbsrun_sizing.specs.Lateness.{IsKeptMove}
use Rattle.cbsrun_sizing.proofs.ServerMoves.{count_of, run_same, advance_same, charge_same, shut, count, submit_shut, submit_elsewhere, charge_most, found}
use Rattle.cbsrun_sizing.proofs.ServerMoves.{done_there}

-- the first of released jobs
released_front : (setup : Setup) (s : ℕ) (released : ℕ → ℕ) (rates : List Rate) (of : ℕ → ℕ) (passed : ℕ) (K L : List (Step LoadJob))
    → AreReleased loading setup s released rates of passed (K ++ L) → AreReleased loading setup s released rates of passed L
released_front setup s released rates of passed [] L are = are
released_front setup s released rates of passed (x ∷ K) L are = released_front setup s released rates of passed K L are.0

module _ (s : ℕ) (released of place : ℕ → ℕ) where
  -- The releases of server s are its jobs from number k on. Each came at that job's tick, from the source at that job's place
  abbrev pub AreNumbered : ℕ → List Release → Type 0
  AreNumbered k [] = Unit {0}
  AreNumbered k (r ∷ rs) = (r.server ≡ s → (released k ≡ r.tick) × (of k ≡ place r.source)) × AreNumbered (if eqb r.server s then k + 1 else k) rs

module _ (until : ℕ) (ends : until ≤ clock_end) (s : ℕ) (released of place every b : ℕ → ℕ) (rates : List Rate) (passed delay : ℕ) (IsOwnSource : ℕ → Type 0) where
  -- the release is one of a stream of server s
  pub record IsOwn (setup : Setup) (r : Release) : Type 0 where
    pub source : IsOwnSource r.source
    pub some : 0 < r.units
    pub there : place r.source < length rates
    pub small : span_of (reserved loading setup s) r.units ≤ (get_or rates (place r.source) (no_stream.rate)).budget
    pub distance : (get_or rates (place r.source) (no_stream.rate)).period ≡ every r.source

  -- what the streams, the servers and the bounds keep
  pub record IsGiven (setup : Setup) : Type 0 where
    pub ok : IsBearable rates
    pub order : AreInOrder released
    pub enough : backlog_for (all_spans rates + delay + passed) rates ≤ setup.backlog
    pub laws : (steps : List (Step LoadJob)) → IsGuaranteed loading (record { setup = setup; steps = steps })
    pub none : b s ≡ 0
    pub most : (t : ℕ) → b t ≤ passed
    pub others : (w : World LoadJob) → length w.accounts ≡ length setup.servers → ((t : ℕ) → (account w.accounts t).charges.most ≤ b t)
        → others_charges w.accounts s ≤ delay
    pub apart_places : (i j : ℕ) → IsOwnSource i → IsOwnSource j → place i ≡ place j → i ≡ j

  -- the stream of a release may have another job when it comes
  abbrev pub IsOpen : Setup → List (Step LoadJob) → Release → Type 0
  IsOpen setup M r = r.server ≡ s → (get_or (released_after loading setup s released rates of M) (place r.source) no_stream).open_at ≤ r.tick

  -- where a simulation stands
  pub record IsKept (since : ℕ) (sim : Simulation LoadJob) : Type 0 where
    pub going : IsGoing loading job_of until ends since sim
    pub soon : clock_of loading job_of sim ≤ since + passed
    pub bounded : IsBounded b until sim
    pub free : (account (world_after loading sim.history).accounts s).closed ≡ false
    pub quiet : AdvanceQuietly loading sim.history.setup sim.history.steps
    pub are : AreReleased loading sim.history.setup s released rates of passed sim.history.steps
    pub jobs : AreNumbered s released of place (jobs_of loading sim.history.setup s sim.history.steps) sim.coming
    pub apart : AreApart every sim.coming
    pub opened : AllByRecursion (IsOpen sim.history.setup sim.history.steps) sim.coming
    pub own : AllByRecursion (λ r. r.server ≡ s → IsOwn sim.history.setup r) sim.coming

  module _ (since : ℕ) (sim : Simulation LoadJob) (given : IsGiven sim.history.setup) (h : IsKept since sim) where
    abbrev setup : Setup
    setup = sim.history.setup

    abbrev M : List (Step LoadJob)
    M = sim.history.steps

    abbrev w : World LoadJob
    w = world_after loading sim.history

    abbrev q : ℕ
    q = jobs_of loading setup s M

    -- the server was charged nothing
    none_charged : (account w.accounts s).charges.total ≡ 0
    none_charged = (h.bounded.within s).2 given.none

    -- the others no more than the delay
    others_charged : others_charges w.accounts s ≤ delay
    others_charged = given.others w (count_of setup M) (λ t. (h.bounded.within t).1)

    -- the streams have their rates
    rate_is : (i : ℕ) → (get_or (released_after loading setup s released rates of M) i no_stream).rate ≡ get_or rates i (no_stream.rate)
    rate_is i =
        let xs = released_after loading setup s released rates of M in
        let f : Stream → Rate = λ x. x.rate in
        let late = late_after loading setup s released rates of passed given.ok given.order M none_charged h.are in
        sym (get_or-map f xs i no_stream) ∙ ap (λ rs. get_or rs i (no_stream.rate)) late.rates_are

    -- the next release, if it is one of server s, is its next job
    next_job : (r : Release) (rest : List Release) → sim.coming ≡ r ∷ rest → r.server ≡ s → since ≤ r.tick → r.tick ≤ w.now
        → IsReleasedJob loading setup s released rates of passed M (job_of r)
    next_job r rest e same from come =
        let jobs = (rw e at h.jobs).0 same in
        let opened = (rw e at h.opened).0 same in
        let own = (rw e at h.own).0 same in
        let tick = jobs.0 in
        let soon = h.soon in
        record {
          there = rw jobs.1 own.there;
          small = rw (jobs.1, reserved_after loading setup s M, rate_is (place r.source)) own.small;
          apart = rw (jobs.1, jobs.0) opened;
          out = omega arith;
          late = omega arith;
        }

    -- it is accepted
    accepted : (r : Release) (rest : List Release) → sim.coming ≡ r ∷ rest → r.server ≡ s → since ≤ r.tick → r.tick ≤ w.now
        → submit_refusal setup.backlog (faces loading w) s ≡ None
    accepted r rest e same from come =
        (given.laws M).late_accepting h.quiet s released rates of passed delay given.ok given.order none_charged others_charged given.enough h.are (job_of r)
        (next_job r rest e same from come) h.free

    -- after a submit the jobs of server s are still those released
    submit_are : (r : Release) (rest : List Release) → sim.coming ≡ r ∷ rest → since ≤ r.tick → r.tick ≤ w.now
        → AreReleased loading setup s released rates of passed (Submit r.server (job_of r) ∷ M)
    submit_are r rest e from come = (h.are, λ same accepted. next_job r rest e same from come)

    -- what a submit to server s makes of its count and of its streams
    submit_here : (r : Release) (rest : List Release) → sim.coming ≡ r ∷ rest → r.server ≡ s → since ≤ r.tick → r.tick ≤ w.now
        → (jobs_of loading setup s (Submit r.server (job_of r) ∷ M) ≡ q + 1)
        × (released_after loading setup s released rates of (Submit r.server (job_of r) ∷ M)
        ≡ changed_at (came (released q)) (released_after loading setup s released rates of M) (of q))
    submit_here r rest e same from come =
        let yes = accepted r rest e same from come in
        let itself : eqb s s ≡ true = grind (arith, nat_tests) in
        rw same (jobs_given loading setup s M (job_of r) yes, rw (itself, yes) refl)

    -- what a submit to another server makes of them
    submit_there : (r : Release) → r.server ≢ s
        → (jobs_of loading setup s (Submit r.server (job_of r) ∷ M) ≡ q)
        × (released_after loading setup s released rates of (Submit r.server (job_of r) ∷ M) ≡ released_after loading setup s released rates of M)
    submit_there r ne =
        let n : eqb r.server s ≡ false = grind (arith, nat_tests) in (
          ap (λ a. length a.accepted) (submit_elsewhere w s r.server (job_of r) (submit_refusal setup.backlog (faces loading w) r.server) ne),
          rw n refl,
        )

    -- a release after that of the same stream comes when the stream is open again
    open_again : (r : Release) (rest : List Release) → sim.coming ≡ r ∷ rest → r.server ≡ s → (p : Release) → IsLater every r p → IsOpen setup M p
        → (p.server ≡ s → IsOwn setup p) → p.server ≡ s
        → (get_or (changed_at (came (released q)) (released_after loading setup s released rates of M) (of q)) (place p.source) no_stream).open_at ≤ p.tick
    open_again r rest e same p later before owned ours =
        let xs = released_after loading setup s released rates of M in
        let jobs = (rw e at h.jobs).0 same in
        let own = (rw e at h.own).0 same in
        let its = owned ours in
        elim (cases_Bool (eqb (place r.source) (place p.source))) [
          | inl y ↦
              let at : place r.source ≡ place p.source = grind (arith, nat_tests) in
              let source : r.source ≡ p.source = given.apart_places r.source p.source own.source its.source at in
              let late : r.tick + every p.source ≤ p.tick = rw source at (later (sym source)) in
              let count : length xs ≡ length rates = streams_count in
              let there = its.there in
              let here = changed_here (came (released q)) xs (place p.source) no_stream (omega arith) in
              let period : (get_or xs (place p.source) no_stream).rate.period ≡ every p.source = ap (λ (x : Rate). x.period) (rate_is (place p.source)) ∙ its.distance in
              let tick = jobs.0 in
              rw (jobs.1, at, here, period) (omega arith)
          | inr n ↦
              let other : place p.source ≢ of q = λ f. let g = jobs.1 in let y : eqb (place r.source) (place p.source) ≡ true = grind (arith, nat_tests) in cc in
              rw (changed_elsewhere (came (released q)) xs (of q) (place p.source) no_stream other) (before ours)
        ]
      where
        streams_count : length (released_after loading setup s released rates of M) ≡ length rates
        streams_count =
            let xs = released_after loading setup s released rates of M in
            let late = late_after loading setup s released rates of passed given.ok given.order M none_charged h.are in
            sym (length-map xs (λ x. x.rate)) ∙ ap length late.rates_are

    -- what comes after the first release
    abbrev IsRest : Simulation LoadJob → Type 0
    IsRest next = AreNumbered s released of place (jobs_of loading setup s next.history.steps) next.coming × AreApart every next.coming
        × AllByRecursion (IsOpen setup next.history.steps) next.coming × AllByRecursion (λ r. r.server ≡ s → IsOwn setup r) next.coming

    -- what is left to come after a submit
    submit_rest : (r : Release) (rest : List Release) → sim.coming ≡ r ∷ rest → since ≤ r.tick → r.tick ≤ w.now
        → IsRest (after_move loading job_of sim (submit r))
    submit_rest r rest e from come =
        let jobs : AreNumbered s released of place q (r ∷ rest) = rw e at h.jobs in
        let apart : AreApart every (r ∷ rest) = rw e at h.apart in
        let opened : AllByRecursion (IsOpen setup M) (r ∷ rest) = rw e at h.opened in
        let own : AllByRecursion (λ r. r.server ≡ s → IsOwn setup r) (r ∷ rest) = rw e at h.own in
        elim (cases_Bool (eqb r.server s)) [
          | inl y ↦
              let same : r.server ≡ s = grind (arith, nat_tests) in
              let here = submit_here r rest e same from come in
              let after_it : AllByRecursion (IsOpen setup (Submit r.server (job_of r) ∷ M)) rest =
              all_three (IsLater every r) (IsOpen setup M) (λ p. p.server ≡ s → IsOwn setup p) (IsOpen setup (Submit r.server (job_of r) ∷ M)) rest apart.0
              opened.1 own.1 (λ p later before owned ours. rw here.1 (open_again r rest e same p later before owned ours)) in
              let numbers : AreNumbered s released of place (q + 1) rest = rw y at jobs.1 in
              rw (e, here.0) (numbers, apart.1, after_it, own.1)
          | inr n ↦
              let ne : r.server ≢ s = λ same. let y : eqb r.server s ≡ true = grind (arith, nat_tests) in cc in
              let there = submit_there r ne in
              let after_it : AllByRecursion (IsOpen setup (Submit r.server (job_of r) ∷ M)) rest =
              AllByRecursion-weaker (IsOpen setup M) (IsOpen setup (Submit r.server (job_of r) ∷ M)) rest opened.1 (λ p before ours. rw there.1 (before ours)) in
              let numbers : AreNumbered s released of place q rest = rw n at jobs.1 in
              rw (e, there.0) (numbers, apart.1, after_it, own.1)
        ]
      where
        all_three : (P Q R S : Release → Type 0) (rs : List Release) → AllByRecursion P rs → AllByRecursion Q rs → AllByRecursion R rs
            → ((r : Release) → P r → Q r → R r → S r) → AllByRecursion S rs
        all_three P Q R S [] p q r k = tt
        all_three P Q R S (x ∷ rs) p q r k = (k x p.0 q.0 r.0, all_three P Q R S rs p.1 q.1 r.1 k)

    -- a move that is well made and no submit keeps what it leaves of the jobs
    other_rest : (m : Move) → (after_move loading job_of sim m).coming ≡ sim.coming
        → jobs_of loading setup s (after_move loading job_of sim m).history.steps ≡ q
        → released_after loading setup s released rates of (after_move loading job_of sim m).history.steps ≡ released_after loading setup s released rates of M
        → IsRest (after_move loading job_of sim m)
    other_rest m coming jobs streams =
        let after_it : AllByRecursion (IsOpen setup (after_move loading job_of sim m).history.steps) sim.coming =
        AllByRecursion-weaker (IsOpen setup M) (IsOpen setup (after_move loading job_of sim m).history.steps) sim.coming h.opened
        (λ p before ours. rw streams (before ours)) in
        rw (coming, jobs) (h.jobs, h.apart, after_it, h.own)

  -- each move keeps it
  kept_move : (since : ℕ) (sim : Simulation LoadJob) (m : Move) → IsGiven sim.history.setup → MovesWell loading job_of until ends since sim m → IsKept since sim
      → IsKept (since_after loading job_of since sim m) (after_move loading job_of sim m)
  kept_move since sim (submit r) given well h =
      let w = world_after loading sim.history in
      let e = first_coming until sim.coming r _ well.submits in
      let rest = submit_rest since sim given h r (drop 1 sim.coming) e well.on_tick.0 well.on_tick.1 in
      let stands = submit-now loading sim.history.setup.backlog w r.server (job_of r) in
      let soon = h.soon in
      record {
        going = well.going;
        soon = omega arith;
        bounded = bounded_move b until ends since sim (submit r) well h.bounded;
        free = submit_shut w s r.server (job_of r) (submit_refusal sim.history.setup.backlog (faces loading w) r.server) ∙ h.free;
        quiet = (h.quiet, well.quiet);
        are = submit_are since sim given h r (drop 1 sim.coming) e well.on_tick.0 well.on_tick.1;
        jobs = rest.0;
        apart = rest.1;
        opened = rest.2;
        own = rest.3;
      }
  kept_move since sim run given well h =
      let w = world_after loading sim.history in
      let rest = other_rest since sim given h run refl
      (run_same count (λ now a. refl) (λ a. refl) (λ a. refl) sim.history.setup.backlog w s) refl in
      record {
        going = well.going;
        soon = omega arith;
        bounded = bounded_move b until ends since sim run well h.bounded;
        free = run_same shut (λ now a. refl) (λ a. refl) (λ a. refl) sim.history.setup.backlog w s ∙ h.free;
        quiet = (h.quiet, well.quiet);
        are = (h.are, tt);
        jobs = rest.0;
        apart = rest.1;
        opened = rest.2;
        own = rest.3;
      }
  kept_move since sim (pass n) given well h =
      let w = world_after loading sim.history in
      let rest = other_rest since sim given h (pass n) refl
      (advance_same count (λ now a. refl) (λ a. refl) sim.history.setup.backlog w n s) refl in
      record {
        going = well.going;
        soon = omega arith;
        bounded = bounded_move b until ends since sim (pass n) well h.bounded;
        free = advance_same shut (λ now a. refl) (λ a. refl) sim.history.setup.backlog w n s ∙ h.free;
        quiet = (h.quiet, well.quiet);
        are = (h.are, tt);
        jobs = rest.0;
        apart = rest.1;
        opened = rest.2;
        own = rest.3;
      }
  kept_move since sim (charge t n) given well h =
      let w = world_after loading sim.history in
      let rest = other_rest since sim given h (charge t n) refl
      (charge_same count (λ now a. refl) (λ a. refl) (λ n a. refl) sim.history.setup.backlog w t n s) refl in
      let less = (charge_bounded b until sim t n well.charges h.bounded).0 in
      let most = given.most t in
      let none = granted_none (charge_refusal w t n) well.charges.granted in
      let clock = charge_most sim.history.setup.backlog w t n none in
      record {
        going = well.going;
        soon = omega arith;
        bounded = bounded_move b until ends since sim (charge t n) well h.bounded;
        free = charge_same shut (λ now a. refl) (λ a. refl) (λ n a. refl) sim.history.setup.backlog w t n s ∙ h.free;
        quiet = (h.quiet, well.quiet);
        are = (h.are, tt);
        jobs = rest.0;
        apart = rest.1;
        opened = rest.2;
        own = rest.3;
      }

  -- within so many ticks of its release each job ends
  abbrev pub time : ℕ
  time = all_spans rates + delay + passed

  -- a unit that finishes a job of server s ends it in time
  kept_end : (since later : ℕ) (sim : Simulation LoadJob) → IsGiven sim.history.setup → IsKept since sim → IsKept later (after_move loading job_of sim run)
      → (c : _) → ran_in (reply_in loading sim.history Run) ≡ ran.Done c → c.server ≡ s
      → clock_of loading job_of (after_move loading job_of sim run) ≤ released c.seq + time
  kept_end since later sim given h k c told same =
      let setup = sim.history.setup in
      let M = sim.history.steps in
      let w = world_after loading sim.history in
      let N : History LoadJob = (after_move loading job_of sim run).history in
      let lt : c.seq < length (account w.accounts s).accepted = rw same at (done_there w c told) in
      let f = found setup s M c.seq lt in
      let is : c ≡ record { server = s; seq = jobs_of loading setup s f.before; result = c.result } = rw (f.number, ← same) refl in
      let done : reply_in loading (when N M) Run ≡ reply.Ran (ran.Done (record { server = s; seq = jobs_of loading setup s f.before; result = c.result })) =
      ap reply.Ran (told ∙ ap ran.Done is) in
      let end : IsEndOf loading N [] f.since f.before s f.job = record {
        job_of = record { steps = ap (λ L. Run ∷ L) f.steps; accepted = f.accepted };
        result = c.result;
        done = subst (λ L. reply_in loading (when N L) Run
            ≡ reply.Ran (ran.Done (record { server = s; seq = jobs_of loading setup s f.before; result = c.result }))) f.steps done;
        charges = tt;
      } in
      let are = released_front setup s released rates of passed f.since (Submit s f.job ∷ f.before)
      (subst (λ L. AreReleased loading setup s released rates of passed L) f.steps h.are) in
      let next = after_move loading job_of sim run in
      let by = (given.laws (Run ∷ M)).late_ends k.quiet s released rates of passed given.ok given.order (none_charged later next given k) [] f.since f.before
      f.job end are in
      let others = others_charged later next given k in
      let at = rw f.number at by in
      omega arith

  -- each move does what was promised
  kept_here : (since : ℕ) (sim : Simulation LoadJob) (m : Move) → IsGiven sim.history.setup → MovesWell loading job_of until ends since sim m → IsKept since sim
      → IsKept (since_after loading job_of since sim m) (after_move loading job_of sim m) → IsKeptMove s released time sim m
  kept_here since sim (submit r) given well h k = λ same.
      let e = first_coming until sim.coming r _ well.submits in
      let jobs : AreNumbered s released of place (jobs_of loading sim.history.setup s sim.history.steps) (r ∷ drop 1 sim.coming) = rw e at h.jobs in
      let own : AllByRecursion (λ r. r.server ≡ s → IsOwn sim.history.setup r) (r ∷ drop 1 sim.coming) = rw e at h.own in
      (accepted since sim given h r (drop 1 sim.coming) e same well.on_tick.0 well.on_tick.1, (jobs.0 same).0, (own.0 same).some)
  kept_here since sim run given well h k = λ c told same. kept_end since _ sim given h k c told same
  kept_here since sim (pass n) given well h k = tt
  kept_here since sim (charge t n) given well h k = λ same.
      let w = world_after loading sim.history in
      let less : n ≤ b s = rw same at (charge_bounded b until sim t n well.charges h.bounded).0 in
      let clock = charge_most sim.history.setup.backlog w t n (granted_none (charge_refusal w t n) well.charges.granted) in
      let fewer = well.fewer in
      let none = given.none in
      absurd (omega arith)

  pub kept_moves : (since : ℕ) (sim : Simulation LoadJob) (ms : List Move) → IsGiven sim.history.setup → IsKept since sim
      → AreNext loading job_of until sim ms → AllMoves loading job_of (IsKeptMove s released time) sim ms
  kept_moves since sim [] given h each = tt
  kept_moves since sim (m ∷ ms) given h each =
      let well = well_next loading job_of until ends since sim m h.going each.0 in
      let next = kept_move since sim m given well h in
      (kept_here since sim m given well h next, kept_moves (since_after loading job_of since sim m) (after_move loading job_of sim m) ms given next each.1)
