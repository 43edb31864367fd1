-- The report of a load keeps what is promised for a server.
use Rattle.std.proofs.Common.{◌≡◌, ◌≢◌, ℕ, zero, suc, ◌+◌, ◌≤◌, ◌<◌, true, false, eqb, leb, ltb, List, [], ◌∷◌, length, map, get_or, arith, refl, sym, ap}
use Rattle.std.proofs.Common.{subst, ◌∙◌, inl, inr, Option, Some, None}
use Rattle.std.specs.Prelude.{if◌then◌else◌, Result}
use Rattle.std.specs.List.{sum_by}
use Rattle.std.proofs.lemmas.Bool.{cases_Bool}
use Rattle.std.proofs.lemmas.Bool.Decides.{nat_tests}
use Rattle.std.proofs.lemmas.List.{take_all}
use Rattle.std.proofs.lemmas.List.Elements.{All-from_recursion}
use Rattle.cbs_job.specs.Work.{whole}
use Rattle.cbs_job.specs.declared.completion.Completion.{Completion}
use Rattle.cbs_lists.specs.Lists.{changed_at}
use Rattle.cbs_lists.proofs.Lists.{changed_here, AllByRecursion-weaker}
use Rattle.cbsrun_loads.specs.Loads.{LoadFile, IsLoad}
use Rattle.cbs_rate.specs.Plan.{IsPlan}
use Rattle.cbs_rules.specs.Rules.{Terms, clock_end}
use Rattle.cbs_steps.specs.Accounts.{Account, need, finished, new_account, no_account, account_with_job, account_with_unit, account_with_replenishment}
use Rattle.cbs_steps.specs.Accounts.{account_let_go}
use Rattle.cbs_steps.specs.Faces.{submit_refusal}
use Rattle.cbs_steps.specs.History.{World, account, after, faces, chosen, after_submit, after_run, run_reply, unit_reply, submit_reply, world_after}
use Rattle.cbs_steps.specs.declared.error.CoreError.{CoreError}
use Rattle.cbs_steps.specs.declared.reply.Ran.TheVariants as ran
use Rattle.cbs_steps.specs.declared.view.ServerView.{ServerView}
use Rattle.cbs_steps.proofs.FinishedJobs.{count_done-le}
use Rattle.cbs_steps.proofs.PaidUnits.{paid_after}
use Rattle.cbsrun_simulate.specs.Loading.{loading, job_of}
use Rattle.cbsrun_simulate.specs.MoveLaws.{AllMoves}
use Rattle.cbsrun_simulate.specs.Moves.{Move, submit, run, pass, charge, Simulation, after_move, after_moves, moves_of}
use Rattle.cbsrun_simulate.specs.Shown.{arrival_of, seen_of, shown}
use Rattle.cbsrun_events.specs.Steps.{answer_in, promised_in, submit_seen, view_seen}
use Rattle.cbsrun_simulate.specs.declared.load_job.LoadJob.{LoadJob}
use Rattle.cbsrun_simulate.specs.declared.release.Release.{Release}
use Rattle.cbsrun_figures.specs.Figures.{steps_of, is_server, response, newest, settled, waiting, oldest_finished, finished as ended_of}
use Rattle.cbsrun_figures.specs.declared.job.AcceptedJob.{AcceptedJob}
use Rattle.cbsrun_figures.specs.declared.job.Finish.{Finish}
use Rattle.cbs_steps.specs.declared.step.Step.{Step}
use Rattle.cbs_steps.specs.declared.step.Step.TheVariants.{Run}
use Rattle.std.specs.Option.{option_to_list}
use Rattle.cbsrun_sizing.specs.Lateness.{IsKeptMove}
use Rattle.cbsrun_sizing.proofs.Counted.{finished_job, finished_unit, run_here, run_elsewhere}
use Rattle.cbsrun_sizing.proofs.Promises.{promise_kept, released_at}
use Rattle.cbsrun_sizing.proofs.ServerMoves.{advance_same, charge_same, submit_elsewhere, chosen_owes}
use Rattle.cbsrun_sizing.proofs.LateServers.{as_many}
use Rattle.cbsrun_events.specs.Events.{server_of}
use Rattle.cbsrun_events.specs.declared.seen.Event.{Event}
use Rattle.cbsrun_events.specs.declared.seen.Event.TheVariants as event
use Rattle.cbsrun_events.specs.declared.seen.Seen.{Seen}
use Rattle.cbsrun_runs.specs.Loads.{KeepsPromises, start_of, seen_in}
use Rattle.cbsrun_runs.proofs.KeptReports.{IsSoon, CameFrom, Tells, all_append, listed, tells_still, tells_job, tells_unit, tells_done, tells_charge}
use Rattle.cbsrun_runs.proofs.ThrottledTicks.{counted}
use Rattle.cbsrun_runs.proofs.WaitingMoves.{of_unit, of_submit}

module _ (s : ℕ) (released : ℕ → ℕ) (time : ℕ) where
  -- a step of another server is none of its own
  tells_other : (a b : Account LoadJob) (o : Seen) (own : List Seen) → is_server s (server_of o.event) ≡ false → b.accepted ≡ a.accepted
      → finished loading b ≡ finished loading a → Tells released time a (steps_of s own) → Tells released time b (steps_of s (o ∷ own))
  tells_other a b o own other jobs done h = rw other (tells_still released time a b (steps_of s own) jobs done h)

  -- a unit of the server
  told_own : (w : World LoadJob) (view : Option ServerView) (own : List Seen) → chosen loading w ≡ Some s → w.now < clock_end → s < length w.accounts
      → ((c : _) → run_reply loading w (chosen loading w) ≡ ran.Done c → c.server ≡ s → w.now + 1 ≤ released c.seq + time)
      → Tells released time (account w.accounts s) (steps_of s own)
      → Tells released time (account (after_run w (Some s)).accounts s)
      (steps_of s (record { clock = w.now + 1; event = event.Ran (unit_reply loading (account w.accounts s) s); view = view } ∷ own))
  told_own w view own e early lt soon h =
      let a = account w.accounts s in
      let b = account (after_run w (Some s)).accounts s in
      let here : b ≡ account_with_replenishment (w.now + 1) (account_with_unit (account_let_go a)) = run_here w s lt in
      let k = finished loading a in
      let f : leb clock_end w.now ≡ false = grind (arith, nat_tests) in
      let jobs : b.accepted ≡ a.accepted = ap (λ (x : Account LoadJob). x.accepted) here in
      let itself : eqb s s ≡ true = grind (arith, nat_tests) in
      let owes = chosen_owes w s e in
      let unit = finished_unit a h.some owes in
      elim (cases_Bool (eqb (need loading a (k + 1)) (a.got + 1))) [
        | inl done ↦
            let c : Completion = record { server = s; seq = k; result = get_or (map (whole loading) a.accepted) k 0 } in
            let reply : run_reply loading w (chosen loading w) ≡ ran.Done c = rw (e, f, done) refl in
            let count : finished loading b ≡ k + 1 = ap (finished loading) here ∙ rw done at unit in
            rw (done, itself) (tells_done released time a b (steps_of s own) (w.now + 1) c view jobs count owes (soon c reply refl) h)
        | inr more ↦
            let count : finished loading b ≡ k = ap (finished loading) here ∙ rw more at unit in
            rw (more, itself) (tells_unit released time a b (steps_of s own) (w.now + 1) s k view jobs count h)
      ]

  -- a unit of server t
  told_unit : (w : World LoadJob) (t : ℕ) (view : Option ServerView) (own : List Seen) → chosen loading w ≡ Some t → w.now < clock_end → s < length w.accounts
      → ((c : _) → run_reply loading w (chosen loading w) ≡ ran.Done c → c.server ≡ s → w.now + 1 ≤ released c.seq + time)
      → Tells released time (account w.accounts s) (steps_of s own)
      → Tells released time (account (after_run w (Some t)).accounts s)
      (steps_of s (record { clock = w.now + 1; event = event.Ran (unit_reply loading (account w.accounts t) t); view = view } ∷ own))
  told_unit w t view own e early lt soon h =
      let a = account w.accounts s in
      let b = account (after_run w (Some t)).accounts s in
      elim (cases_Bool (eqb t s)) [
        | inl y ↦ let same : t ≡ s = grind (arith, nat_tests) in rw same (told_own w view own (rw same at e) early lt soon h)
        | inr n ↦
            let ne : t ≢ s = λ same. let y : eqb t s ≡ true = grind (arith, nat_tests) in cc in
            let there = run_elsewhere w t s ne in
            tells_other a b (record { clock = w.now + 1; event = event.Ran (unit_reply loading (account w.accounts t) t); view = view }) own
            (ap (is_server s) (of_unit s t (account w.accounts t)).0 ∙ n)
            (ap (λ (x : Account LoadJob). x.accepted) there) (ap (finished loading) there) h
      ]

  -- a run
  told_run : (w : World LoadJob) (o : Option ℕ) (view : World LoadJob → Option ServerView) (own : List Seen) → chosen loading w ≡ o → s < length w.accounts
      → ((c : _) → run_reply loading w (chosen loading w) ≡ ran.Done c → c.server ≡ s
      → (after_run w (if ltb w.now clock_end then o else None)).now ≤ released c.seq + time)
      → Tells released time (account w.accounts s) (steps_of s own)
      → (let v = after_run w (if ltb w.now clock_end then o else None) in
      Tells released time (account v.accounts s) (steps_of s (record { clock = v.now; event = event.Ran (run_reply loading w o); view = view v } ∷ own)))
  told_run w None view own e lt soon h = elim (cases_Bool (ltb w.now clock_end)) [ inl y ↦ rw y h | inr n ↦ rw n h ]
  told_run w (Some t) view own e lt soon h = elim (cases_Bool (ltb w.now clock_end)) [
    | inl y ↦
        let f : leb clock_end w.now ≡ false = grind (arith, nat_tests) in
        let early : w.now < clock_end = grind (arith, nat_tests) in
        rw (y, f) (told_unit w t (view (after_run w (Some t))) own e early lt (rw y at soon) h)
    | inr n ↦ let f : leb clock_end w.now ≡ true = grind (arith, nat_tests) in rw (n, f) h
  ]

  -- a submit
  told_submit : (w v : World LoadJob) (r : Release) (o : Option CoreError) (promised : Result ℕ CoreError → Option ℕ)
      (view : Event → Option ServerView) (own : List Seen)
      → s < length w.accounts → (let a = account w.accounts s in a.got ≤ need loading a (length a.accepted))
      → (r.server ≡ s → (o ≡ None) × (released (length (account w.accounts s).accepted) ≡ r.tick) × (0 < r.units))
      → Tells released time (account w.accounts s) (steps_of s own)
      → (let answer = answer_in (submit_reply w r.server (job_of r) o) in
      let e = submit_seen (arrival_of r) answer (promised answer) in
      Tells released time (account (after_submit loading w r.server (job_of r) o).accounts s) (steps_of s (record { clock = v.now; event = e; view = view e } ∷ own)))
  told_submit w v r o promised view own lt paid kept h =
      let a = account w.accounts s in
      let answer = answer_in (submit_reply w r.server (job_of r) o) in
      let e = submit_seen (arrival_of r) answer (promised answer) in
      elim (cases_Bool (eqb r.server s)) [
        | inr n ↦
            let ne : r.server ≢ s = λ same. let y : eqb r.server s ≡ true = grind (arith, nat_tests) in cc in
            let there = submit_elsewhere w s r.server (job_of r) o ne in
            tells_other a (account (after_submit loading w r.server (job_of r) o).accounts s) (record { clock = v.now; event = e; view = view e }) own
            (ap (is_server s) (of_submit s r answer (promised answer)).0 ∙ n)
            (ap (λ (x : Account LoadJob). x.accepted) there) (ap (finished loading) there) h
        | inl y ↦
            let same : r.server ≡ s = grind (arith, nat_tests) in
            let k = kept same in
            let f = account_with_job loading w.now (job_of r) in
            let here : account (changed_at f w.accounts r.server) s ≡ f a = rw same (changed_here f w.accounts s no_account lt) in
            let all : need loading a (length a.accepted) ≡ sum_by loading.left a.accepted = rw (take_all (length a.accepted) a.accepted (omega arith)) refl in
            let count = finished_job w.now (job_of r) a (omega arith) k.2 in
            rw (k.0, y) (tells_job released time a (account (changed_at f w.accounts r.server) s) (steps_of s own) (job_of r) v.now _ (arrival_of r) _ _
            (ap (λ (x : Account LoadJob). x.accepted) here) (ap (finished loading) here ∙ count) k.2 (sym k.1) h)
      ]

  -- after a run of the server, the newest job that was finished is the one that the run finished
  abbrev IsLast : World LoadJob → List Seen → Type 0
  IsLast w own = (job : Finish) → newest own ≡ Some job
      → (c : Completion) × (run_reply loading w (chosen loading w) ≡ ran.Done c) × (job.job.came ≡ released c.seq)

  last_run : (w : World LoadJob) (clock : ℕ) (view : Option ServerView) (own : List Seen) → chosen loading w ≡ Some s → w.now < clock_end
      → Tells released time (account w.accounts s) (steps_of s own)
      → IsLast w (steps_of s (record { clock = clock; event = event.Ran (run_reply loading w (chosen loading w)); view = view } ∷ own))
  last_run w clock view own e early h job told =
      let a = account w.accounts s in
      let k = finished loading a in
      let f : leb clock_end w.now ≡ false = grind (arith, nat_tests) in
      let itself : eqb s s ≡ true = grind (arith, nat_tests) in
      elim (cases_Bool (eqb (need loading a (k + 1)) (a.got + 1))) [
        | inl done ↦
            let c : Completion = record { server = s; seq = k; result = get_or (map (whole loading) a.accepted) k 0 } in
            let reply : run_reply loading w (chosen loading w) ≡ ran.Done c = rw (e, f, done) refl in
            let oldest : oldest_finished clock (waiting (steps_of s own)) ≡ Some job = rw (e, f, done, itself) at told in
            (c, reply, first (waiting (steps_of s own)) h.came oldest)
        | inr more ↦ let none : None ≡ Some job = rw (e, f, more, itself) at told in cc
      ]
    where
      first : (jobs : List AcceptedJob) → CameFrom released time (finished loading (account w.accounts s)) jobs → oldest_finished clock jobs ≡ Some job
          → job.job.came ≡ released (finished loading (account w.accounts s))
      first [] came oldest = cc
      first (x ∷ jobs) came oldest =
          let ended : Finish = record { job = x; at = clock } in
          let is : ended ≡ job = cc in
          subst (λ (j : Finish). j.job.came ≡ released (finished loading (account w.accounts s))) is came.0

  -- what the server's steps tell so far
  pub record IsTold (sim : Simulation LoadJob) (seen : List Seen) : Type 0 where
    pub tells : Tells released time (account (world_after loading sim.history).accounts s) (steps_of s seen)
    pub last : (M : List (Step LoadJob)) → sim.history.steps ≡ Run ∷ M → chosen loading (after loading sim.history.setup M) ≡ Some s
        → (after loading sim.history.setup M).now < clock_end → IsLast (after loading sim.history.setup M) (steps_of s seen)

  -- after one more move
  told_move : (sim : Simulation LoadJob) (m : Move) (seen : List Seen) → s < length (world_after loading sim.history).accounts
      → IsKeptMove s released time sim m → IsTold sim seen → IsTold (after_move loading job_of sim m) (seen_of loading job_of sim m ∷ seen)
  told_move sim (submit r) seen lt kept h =
      let w = world_after loading sim.history in
      let v = world_after loading (after_move loading job_of sim (submit r)).history in
      record {
        tells = told_submit w v r (submit_refusal sim.history.setup.backlog (faces loading w) r.server) (promised_in loading v r.server)
            (view_seen (faces loading v)) seen lt (paid_after loading sim.history.setup sim.history.steps s)
            (λ same. let k = kept same in (rw same k.0, k.1, k.2)) h.tells;
        last = λ M e. cc;
      }
  told_move sim run seen lt kept h =
      let w = world_after loading sim.history in
      let v = world_after loading (after_move loading job_of sim run).history in
      let view = view_seen (faces loading v) (event.Ran (run_reply loading w (chosen loading w))) in
      let own = seen in
      record {
        tells = told_run w (chosen loading w) (λ v. view_seen (faces loading v) (event.Ran (run_reply loading w (chosen loading w)))) own refl lt kept h.tells;
        last = λ M e server early.
            let same : sim.history.steps ≡ M = cc in
            let o = seen_of loading job_of sim run in
            subst (λ A. chosen loading (after loading sim.history.setup A) ≡ Some s → (after loading sim.history.setup A).now < clock_end
            → IsLast (after loading sim.history.setup A) (steps_of s (o ∷ own))) same
            (λ server early. last_run w v.now view own server early h.tells) server early;
      }
  told_move sim (pass n) seen lt kept h =
      let w = world_after loading sim.history in
      let backlog = sim.history.setup.backlog in
      record {
        tells = tells_other (account w.accounts s) (account (world_after loading (after_move loading job_of sim (pass n)).history).accounts s)
            (seen_of loading job_of sim (pass n)) seen refl
            (advance_same (λ (a : Account LoadJob). a.accepted) (λ now a. refl) (λ a. refl) backlog w n s)
            (advance_same (finished loading) (λ now a. refl) (λ a. refl) backlog w n s) h.tells;
        last = λ M e. cc;
      }
  told_move sim (charge t n) seen lt kept h =
      let w = world_after loading sim.history in
      let v = world_after loading (after_move loading job_of sim (charge t n)).history in
      let backlog = sim.history.setup.backlog in
      let own = seen in
      let jobs = charge_same (λ (a : Account LoadJob). a.accepted) (λ now a. refl) (λ a. refl) (λ n a. refl) backlog w t n s in
      let done = charge_same (finished loading) (λ now a. refl) (λ a. refl) (λ n a. refl) backlog w t n s in
      record {
        tells = elim (cases_Bool (eqb t s)) [
          | inr other ↦ tells_other (account w.accounts s) (account v.accounts s) (seen_of loading job_of sim (charge t n)) own other jobs done h.tells
          | inl y ↦
              let same : t ≡ s = grind (arith, nat_tests) in
              let k = kept same in
              rw y (tells_charge released time (account w.accounts s) (account v.accounts s) (steps_of s own) v.now t n _ jobs done
              (λ job told.
              let l = h.last k.before k.steps k.server k.early job told in
              let soon = k.soon l.0 l.1 in
              let came = l.2 in
              omega arith) h.tells)
        ];
        last = λ M e. cc;
      }

  -- after more moves
  told_moves : (sim : Simulation LoadJob) (ms : List Move) (seen : List Seen) → s < length sim.history.setup.servers
      → AllMoves loading job_of (IsKeptMove s released time) sim ms → IsTold sim seen
      → IsTold (after_moves loading job_of sim ms) (shown loading job_of sim ms seen)
  told_moves sim [] seen lt kept h = h
  told_moves sim (m ∷ ms) seen lt kept h =
      let there : s < length (world_after loading sim.history).accounts = omega (arith, counted sim.history) in
      told_moves (after_move loading job_of sim m) ms (seen_of loading job_of sim m ∷ seen) lt kept.1 (told_move sim m seen there kept.0 h)

-- at the start there is no job
no_jobs_at : (ts : List Terms) (s : ℕ) → (let a : Account LoadJob = account (map new_account ts) s in a.accepted ≡ [])
no_jobs_at [] s = refl
no_jobs_at (t ∷ ts) zero = refl
no_jobs_at (t ∷ ts) (suc s) = no_jobs_at ts s

-- the report of a load keeps what is promised
pub promises_kept : (f : LoadFile) → IsLoad f → IsPlan f.plan → KeepsPromises f
promises_kept f load plan = λ s within lt promised.
    let sim = start_of f in
    let tick = released_at f s in
    let a = account (world_after loading sim.history).accounts s in
    let empty : a.accepted ≡ [] = no_jobs_at sim.history.setup.servers s in
    let none : finished loading a ≤ length a.accepted = count_done-le loading.left a.accepted a.got in
    let zero_jobs : length a.accepted ≡ 0 = ap length empty in
    let old : Tells tick within a [] = record { some = rw empty tt; refused = refl; before = tt; last = λ job e. cc; came = tt; count = omega arith } in
    let there : s < length sim.history.setup.servers = omega (arith, as_many f.modes f.plan.rates load.moded) in
    let h = told_moves s tick within sim (moves_of loading job_of f.until sim) [] there (promise_kept f load plan s within lt promised)
    (record { tells = old; last = λ M e. cc }) in
    let own = steps_of s (seen_in f) in
    let all = all_append (IsSoon tick within) (settled own) (option_to_list (newest own)) h.tells.before (listed tick within (newest own) h.tells.last) in
    record {
      accepted = h.tells.refused;
      ended = All-from_recursion (λ job. response job ≤ within) (ended_of own)
          (AllByRecursion-weaker (IsSoon tick within) (λ job. response job ≤ within) (ended_of own) all (λ job soon. omega arith));
    }
