-- What agreement with a history becomes, through each step.
use Rattle.std.proofs.Common.{◌≡◌, ℕ, ◌+◌, ◌-◌, ◌≤◌, ◌<◌, List, [], ◌∷◌, ◌++◌, length, map, replicate, refl, ap, sym, ◌∙◌, arith, true, false, Bool, not, drop, subst, inl}
use Rattle.std.proofs.Common.{leb, ltb, eqb, cond, is_some, Option, Some, None}
use Rattle.std.proofs.lemmas.Bool.Decides.{nat_tests}
use Rattle.std.proofs.lemmas.List.{length-map, get_or_past}
use Rattle.std.proofs.lemmas.Simd.{map-map}
use Rattle.std.specs.List.{sum_by, AllZip}
use Rattle.cbs_job.specs.Work.{Meaning, Lowers}
use Rattle.cbs_rules.specs.Rules.{clock_end, Terms}
use Rattle.cbs_lists.specs.Lists.{changed_at}
use Rattle.cbs_steps.specs.Choice.{chosen_among}
use Rattle.cbs_steps.specs.Faces.{Face, new_face, face_at, ranks, submit_refusal, close_refusal, with_job, with_unit, with_charge, with_replenishment, with_close}
use Rattle.cbs_steps.specs.Accounts.{need, face_of, new_account, no_account, account_with_job, account_with_unit, account_with_charge, account_with_replenishment, account_with_close, account_let_go}
use Rattle.cbs_steps.specs.History.{World, History, ◌⊕◌, account, faces, chosen, start, after_submit, after_run, after_closing, charge_refusal, let_go, world_after}
use Rattle.cbs_steps.specs.History.{run_reply, submit_reply, close_reply, reply_in}
use Rattle.cbs_core.specs.Agreement.{AgreesJobs, AgreesWorld, Agrees, ended}
use Rattle.cbs_steps.specs.Laws.{account_in}
use Rattle.cbs_steps.specs.Promises.{promised_by, promised}
use Rattle.cbs_steps.specs.Replies.{IsAccepted}
use Rattle.cbs_core.specs.Held.{CoreHeld, is_running, may_end, charged_at, ran_of, last_joined, with_job_ended}
use Rattle.cbs_core.specs.Invariant.{IsLastUnit, IsCore}
use Rattle.cbs_queues.specs.Queues.{list_at, jobs_run, result_run}
use Rattle.cbs_steps.specs.declared.error.CoreError.{CoreError}
use Rattle.cbs_steps.specs.declared.error.CoreError.TheVariants as error
use Rattle.cbs_steps.specs.declared.reply.Ran.{Ran}
use Rattle.cbs_steps.specs.declared.reply.Ran.TheVariants as ran
use Rattle.cbs_steps.specs.declared.reply.Reply.TheVariants as reply
use Rattle.cbs_steps.specs.declared.step.Step.TheVariants.{Submit, Run, Advance, Close, Charge}
use Rattle.cbs_core.proofs.Cores.{MayRun, left_true, may_end_there, backlog_at}
use Rattle.cbs_core.proofs.EndedJobs.{ended_jobs, ended_face}
use Rattle.cbs_hindsight.specs.Hindsight.{IsCut, EndsWithUnit, effective, ending, hindsight, account_cut, world_cut}
use Rattle.cbs_hindsight.proofs.Hindsight.{IsStill, IsBegun, begun_at, hindsight_kept, effective_kept, ends_beside, ends_unit}
use Rattle.cbs_steps.proofs.Histories.{account_face, let_go_faces}
use Rattle.cbs_core.proofs.Running.{running_server}
use Rattle.cbs_steps.proofs.Running.{none_runs, runs_changed, latest_changed, runs_run, latest_run, advance_jumps, runs_jumped, charge_jumps, charge_none, charge_refused, runs_charged, latest_charged, refused_stranger, refused_idle, refused_late, not_refused}
use Rattle.cbs_steps.proofs.PaidUnits.{paid_after}
use Rattle.cbs_lists.proofs.Lists.{map-changed_at, AllZip-length, AllZip-get, AllZip-map, AllZip-replicate, AllZip-changed_at, AllZip-changed_second}
use Rattle.cbs_core.proofs.HeldJobs.{owed_jobs, unit_jobs, unit_face, unit_ran, job_jobs, job_face}
use Rattle.cbs_steps.proofs.Ticks.{replenished_faces}

-- a choice between two that are the same is that one, whichever way it goes
cond_same : {X : Type 0} {x : X} (b : Bool) → cond b x x ≡ x
cond_same true = refl
cond_same false = refl

module _ {W : Type 0} (work : Meaning W) where
  -- a new core, with the faces and empty queues of new servers, agrees with the start
  pub start_agrees : (terms : List Terms) (backlog n : ℕ) (shown : List Face) (queues : List (List W)) (rooms : List ℕ) → shown ≡ map new_face terms
      → n ≡ length shown → queues ≡ replicate n []
      → AgreesWorld work (record { backlog = backlog; clock = 0; last = record { server = 0; advanced_to = 0; charged = 0; charged_to = 0; unfinished = false }; faces = shown; queues = queues; rooms = rooms }) backlog
      (start (record { servers = terms; backlog = backlog }))
  start_agrees terms backlog n shown queues rooms e count empty = record {
    same_backlog = refl;
    clock = refl;
    shown = e ∙ sym (map-map (face_of work) new_account terms);
    jobs = let size : n ≡ length terms = count ∙ ap length e ∙ length-map terms new_face in
        let none = AllZip-replicate (AgreesJobs work) [] new_account terms (λ t. record { results = refl; lefts = refl }) in
        rw (empty, size) none;
    runs = none_runs W terms;
    latest = λ s running. cc;
  }

module _ {W : Type 0} {work : Meaning W} {core held : CoreHeld W} {M : History W} (view : core ≡ held)
    (before : Agrees work held M) where
  abbrev w : World W
  w = world_after work M

  -- the core as the call sees it agrees too
  agrees : AgreesWorld work core M.setup.backlog w
  agrees = rw view before.world

  -- and the history ends with a unit, if the core says so
  ends : core.last.unfinished ≡ true → EndsWithUnit work (effective work M) core.last.server
  ends = rw view before.unit

  -- the choice among the faces held is the chosen server
  pub choice_agrees : chosen_among (ranks core.faces) ≡ chosen work w
  choice_agrees = ap (λ fs. chosen_among (ranks fs)) agrees.shown

  -- what an account shows is the face held
  pub face_is : (s : ℕ) → face_of work (account w.accounts s) ≡ face_at core.faces s
  face_is s = sym (account_face work w.accounts s) ∙ ap (λ fs. face_at fs s) (sym agrees.shown)

  -- each server that the core shows has a queue
  within_queues : (s : ℕ) → s < length core.faces → s < length core.queues
  within_queues s lt = let e = ap length agrees.shown in omega
      (arith, length-map w.accounts (face_of work), AllZip-length (AgreesJobs work) core.queues w.accounts agrees.jobs)

  -- the jobs held of each server agree with its account
  jobs_are : (s : ℕ) → s < length core.faces → AgreesJobs work (list_at core.queues s) (account w.accounts s)
  jobs_are s lt = AllZip-get (AgreesJobs work) core.queues w.accounts s [] no_account agrees.jobs (within_queues s lt)

  -- what is promised is read off what is held: of a server that is there
  pub promised_held : (s units : ℕ) (o : Option ℕ) → s < length core.faces → units ≡ sum_by work.left (list_at core.queues s)
      → o ≡ promised_by (face_at core.faces s).terms.reservation (face_at core.faces s).state units → o ≡ promised work (account w.accounts s)
  promised_held s units o lt count e =
      let shown = ap (λ (f : Face). promised_by f.terms.reservation f.state units) (sym (face_is s)) in
      let left = count ∙ owed_jobs work (list_at core.queues s) (account w.accounts s) (jobs_are s lt) in
      e ∙ shown ∙ ap (promised_by (account w.accounts s).terms.reservation (account w.accounts s).state) left

  -- and nothing beyond the last
  pub promised_beyond : (s : ℕ) → length core.faces ≤ s → None ≡ promised work (account w.accounts s)
  promised_beyond s ge =
      let count = ap length agrees.shown in
      let none : account w.accounts s ≡ no_account = get_or_past w.accounts s no_account (omega (arith, length-map w.accounts (face_of work))) in
      rw none refl

  -- the result of a run is that of the choice among the faces held
  pub reply_by : (o : Option ℕ) → o ≡ chosen_among (ranks core.faces)
      → reply.Ran (run_reply work w o) ≡ reply_in work M Run
  reply_by o e = ap (λ p. reply.Ran (run_reply work w p)) (e ∙ choice_agrees)

  -- at the clock's end a run leaves the world as it is
  pub next_late : clock_end ≤ core.clock → world_after work (M ⊕ Run) ≡ w
  next_late late = let n : ltb w.now clock_end ≡ false = let c = agrees.clock in grind (arith, nat_tests) in rw n

  -- the run does nothing then
  pub late_still : clock_end ≤ core.clock → IsStill work M Run
  late_still late = let n : ltb w.now clock_end ≡ false = let c = agrees.clock in grind (arith, nat_tests) in inl (rw n refl)

  -- nor if no server is chosen
  pub idle_still : None ≡ chosen_among (ranks core.faces) → IsStill work M Run
  idle_still e = let n : chosen work w ≡ None = sym (e ∙ choice_agrees) in inl (rw (n, cond_same (ltb w.now clock_end)) refl)

  -- if no server is chosen, a run leaves the world as it is
  pub idle_next : None ≡ chosen_among (ranks core.faces) → world_after work (M ⊕ Run) ≡ w
  idle_next e = let n : chosen work w ≡ None = sym (e ∙ choice_agrees) in rw (n, cond_same (ltb w.now clock_end))

  -- at the clock's end the result of a run is ClockEnd
  pub end_reply : (s : ℕ) → Some s ≡ chosen_among (ranks core.faces) → clock_end ≤ core.clock
      → reply.Ran ran.ClockEnd ≡ reply_in work M Run
  end_reply s e late =
      let n : leb clock_end w.now ≡ true = let c = agrees.clock in grind (arith, nat_tests) in
      rw n at (reply_by (Some s) e)

  module _ (s : ℕ) (law : Lowers work) (e : Some s ≡ chosen_among (ranks core.faces)) (may : MayRun work core s) where
    abbrev done : Bool
    done = is_some (result_run work (list_at core.queues s))

    -- the result of the unit
    pub unit_answered : (r : Ran) → r ≡ ran_of s (face_at core.faces s).finished (result_run work (list_at core.queues s))
        → reply.Ran r ≡ reply_in work M Run
    unit_answered r is =
        let n : leb clock_end w.now ≡ false = let c = agrees.clock in let k = may.early in grind (arith, nat_tests) in
        let here = unit_ran work (list_at core.queues s) (account w.accounts s) (jobs_are s may.within) law may.active may.unfinished s in
        let same = ap (λ (f : Face). ran_of s f.finished (result_run work (list_at core.queues s))) (sym (face_is s)) in
        ap reply.Ran (is ∙ same ∙ here) ∙ rw n at (reply_by (Some s) e)

    -- the run leaves the world after a unit of server s and a tick
    next_early : world_after work (M ⊕ Run) ≡ after_run w (Some s)
    next_early =
        let n : ltb w.now clock_end ≡ true = let c = agrees.clock in let k = may.early in grind (arith, nat_tests) in
        rw n (ap (after_run w) (sym (e ∙ choice_agrees)))

    -- after the unit and the replenishment the core agrees with one run more
    pub unit_agrees : {shown : List Face} {queues : List (List W)} {rooms : List ℕ} (left : Bool)
        → (left ≡ true → result_run work (list_at core.queues s) ≡ None)
        → shown ≡ map (with_replenishment (core.clock + 1)) (changed_at (with_unit done) core.faces s) → queues ≡ changed_at (jobs_run work) core.queues s
        → Agrees work (record { backlog = core.backlog; clock = core.clock + 1; last = record core.last { server = s; unfinished = left }; faces = shown; queues = queues; rooms = rooms }) (M ⊕ Run)
    unit_agrees left more is run =
        let loose = let_go w in
        let loose_jobs : AllZip (AgreesJobs work) core.queues loose.accounts = AllZip-map (AgreesJobs work) account_let_go core.queues w.accounts agrees.jobs
        (λ jobs a here. record { results = here.results; lefts = here.lefts }) in
        let here : AgreesJobs work (list_at core.queues s) (account loose.accounts s) = AllZip-get (AgreesJobs work) core.queues loose.accounts s [] no_account loose_jobs may.queue in
        let place : s < length w.accounts = let e = ap length agrees.shown in let lt = may.within in omega (arith, length-map w.accounts (face_of work)) in
        let before = may.last in
        let moved : eqb core.last.advanced_to (core.clock + 1) ≡ false = let a = before.advanced in grind (arith, nat_tests) in
        let paid : eqb core.last.charged_to (core.clock + 1) ≡ false = let a = before.charged in grind (arith, nat_tests) in
        record {
          world = rw next_early record {
            same_backlog = agrees.same_backlog;
            clock = ap (λ n. n + 1) agrees.clock;
            shown = is ∙ rw (agrees.shown, agrees.clock)
                (sym (replenished_faces work (w.now + 1) (changed_at account_with_unit loose.accounts s)
                ∙ ap (map (with_replenishment (w.now + 1))) (map-changed_at (face_of work) account_with_unit (with_unit done) loose.accounts s
                no_account (unit_face work (list_at core.queues s) (account loose.accounts s) here law may.active may.unfinished)
                ∙ ap (λ fs. changed_at (with_unit done) fs s) (let_go_faces work w))));
            jobs = rw run (AllZip-map (AgreesJobs work) (account_with_replenishment (w.now + 1)) (changed_at (jobs_run work) core.queues s)
                (changed_at account_with_unit loose.accounts s)
                (AllZip-changed_at (AgreesJobs work) core.queues loose.accounts s [] no_account (jobs_run work) account_with_unit loose_jobs may.queue
                (λ here. unit_jobs work (list_at core.queues s) (account loose.accounts s) here law may.active may.unfinished))
                (λ jobs a here. record { results = here.results; lefts = here.lefts }));
            runs = λ t. runs_run w s t place ∙ sym (rw moved refl);
            latest = λ t running.
                let same : s ≡ t = let y : eqb s t ≡ true = rw moved at running in grind (arith, nat_tests) in
                rw (← same, paid) (latest_run w s place);
          };
          unit = λ u.
              let n : ltb w.now clock_end ≡ true = let c = agrees.clock in let k = may.early in grind (arith, nat_tests) in
              let q = (face_at core.faces s).finished in
              ends_unit work M s q (rw n (sym (e ∙ choice_agrees))) (sym (unit_answered (ran.Unit s q) (rw (more u) refl)));
        }

  -- an advance by 0 leaves the world as it is
  pub advance_none : (n : ℕ) → n ≡ 0 → world_after work (M ⊕ Advance n) ≡ w
  advance_none n none = rw (none, cond_same (leb (w.now + 0) clock_end))

  -- an advance past the clock's end is refused, and leaves the world as it is
  pub advance_late : (n : ℕ) → clock_end - core.clock < n → (reply.Refused error.ClockEnd ≡ reply_in work M (Advance n)) × (world_after work (M ⊕ Advance n) ≡ w)
  advance_late n late = let f : leb (w.now + n) clock_end ≡ false = let c = agrees.clock in grind (arith, nat_tests) in rw f (refl, refl)

  -- after a jump by n ticks that the clock's end allows, the core agrees with one advance more
  pub advance_agrees : (n : ℕ) {shown : List Face} {rooms : List ℕ} → n ≤ clock_end - core.clock → 0 < n
      → shown ≡ map (with_replenishment (core.clock + n)) core.faces
      → Agrees work (record { backlog = core.backlog; clock = core.clock + n; last = record core.last { advanced_to = core.clock + n }; faces = shown; queues = core.queues; rooms = rooms }) (M ⊕ Advance n)
  advance_agrees n early some is =
      let t : leb (w.now + n) clock_end ≡ true = let c = agrees.clock in grind (arith, nat_tests) in
      record {
        world = rw (t, advance_jumps w n some) record {
          same_backlog = agrees.same_backlog;
          clock = ap (λ m. m + n) agrees.clock;
          shown = is ∙ rw (agrees.shown, agrees.clock) (sym (replenished_faces work (w.now + n) (let_go w).accounts
              ∙ ap (map (with_replenishment (w.now + n))) (let_go_faces work w)));
          jobs = AllZip-map (AgreesJobs work) (account_with_replenishment (w.now + n)) core.queues (let_go w).accounts
              (AllZip-map (AgreesJobs work) account_let_go core.queues w.accounts agrees.jobs (λ jobs a here. record { results = here.results; lefts = here.lefts }))
              (λ jobs a here. record { results = here.results; lefts = here.lefts });
          runs = λ s. let same : eqb (core.clock + n) (core.clock + n) ≡ true = grind (arith, nat_tests) in rw same (runs_jumped w n s);
          latest = λ s running. let same : eqb (core.clock + n) (core.clock + n) ≡ true = grind (arith, nat_tests) in let none : false ≡ true = rw same at running in cc;
        };
        unit = λ u. ends_beside work M (Advance n) core.last.server tt (ends u);
      }

  -- why a submit to s is refused, if it is
  pub same_refusal : (s : ℕ) (o : Option CoreError) → o ≡ submit_refusal core.backlog core.faces s
      → submit_refusal M.setup.backlog (faces work w) s ≡ o
  same_refusal s o e = sym (e ∙ rw (agrees.same_backlog, agrees.shown) refl)

  -- a submit that is refused does nothing
  pub refused_still : (s : ℕ) (job : W) (r : CoreError) → Some r ≡ submit_refusal core.backlog core.faces s → IsStill work M (Submit s job)
  refused_still s job r e = inl (ap is_some (same_refusal s (Some r) e))

  -- a submit of a job to s, by why it is refused
  module _ (s : ℕ) (job : W) (o : Option CoreError) (e : o ≡ submit_refusal core.backlog core.faces s) where
    -- this is the reply to the submit
    pub submit_replied : submit_reply w s job o ≡ reply_in work M (Submit s job)
    submit_replied = ap (submit_reply w s job) (sym (same_refusal s o e))

    -- and leaves what that says
    pub submit_left : world_after work (M ⊕ Submit s job) ≡ after_submit work w s job o
    submit_left = ap (after_submit work w s job) (same_refusal s o e)

  module _ (s : ℕ) (job : W) (e : None ≡ submit_refusal core.backlog core.faces s) where
    -- a submit that is not refused is accepted
    pub submit_accepted : IsAccepted (reply_in work M (Submit s job))
    submit_accepted = (length (account w.accounts s).accepted, sym (submit_replied s job None e))

    -- and the reply has the number of jobs accepted before
    pub submit_answered : (q : ℕ) → q ≡ (face_at core.faces s).accepted → reply.Accepted q ≡ reply_in work M (Submit s job)
    submit_answered q number =
        ap reply.Accepted (number ∙ ap (λ (f : Face). f.accepted) (sym (face_is s))) ∙ submit_replied s job None e

    -- with the job after the others, the core agrees with one submit more
    pub submit_agrees : {shown : List Face} {queues : List (List W)} {rooms : List ℕ} → s < length core.faces
        → shown ≡ changed_at (with_job core.clock) core.faces s → queues ≡ changed_at (λ jobs. jobs ++ job ∷ []) core.queues s → 0 < work.left job
        → Agrees work (record { backlog = core.backlog; clock = core.clock; last = last_joined core s; faces = shown; queues = queues; rooms = rooms }) (M ⊕ Submit s job)
    submit_agrees lt is joined some =
        let paid = paid_after work M.setup M.steps s in
        record {
          world = rw (submit_left s job None e) record {
            same_backlog = agrees.same_backlog;
            clock = agrees.clock;
            shown = is ∙ rw (agrees.shown, agrees.clock)
                (sym (map-changed_at (face_of work) (account_with_job work w.now job) (with_job w.now) w.accounts s no_account
                (job_face work (list_at core.queues s) (account w.accounts s) (jobs_are s lt) w.now job paid some)));
            jobs = rw joined (AllZip-changed_at (AgreesJobs work) core.queues w.accounts s [] no_account (λ jobs. jobs ++ job ∷ [])
                (account_with_job work w.now job) agrees.jobs (within_queues s lt)
                (λ here. job_jobs work (list_at core.queues s) (account w.accounts s) here w.now job paid some));
            runs = λ t. runs_changed (account_with_job work w.now job) w.accounts s t (λ a. refl) ∙ agrees.runs t;
            latest = λ t running. latest_changed (account_with_job work w.now job) w.accounts s t (λ a. refl) ∙ agrees.latest t running;
          };
          unit = λ u.
              let was = left_true core.last.unfinished (not (eqb core.last.server s)) u in
              let other : not (eqb core.last.server s) ≡ true = rw was at u in
              ends_beside work M (Submit s job) core.last.server (λ q. grind (arith, nat_tests)) (ends was);
        }

  -- a close of s, by why it is refused
  module _ (s : ℕ) (o : Option CoreError) (e : o ≡ close_refusal core.faces s) where
    -- by what the accounts show, the close is refused for the same reason, or not refused either
    same_closing : close_refusal (faces work w) s ≡ o
    same_closing = sym (e ∙ rw agrees.shown refl)

    -- this is the reply to the close
    pub close_replied : close_reply o ≡ reply_in work M (Close s)
    close_replied = ap close_reply (sym same_closing)

    -- and leaves what that says
    pub close_left : world_after work (M ⊕ Close s) ≡ after_closing w s o
    close_left = ap (after_closing w s) same_closing

  -- with the server closed, the core agrees with one close more
  pub close_agrees : (s : ℕ) {shown : List Face} {rooms : List ℕ} → None ≡ close_refusal core.faces s
      → shown ≡ changed_at with_close core.faces s
      → Agrees work (record { backlog = core.backlog; clock = core.clock; last = core.last; faces = shown; queues = core.queues; rooms = rooms }) (M ⊕ Close s)
  close_agrees s e is = record {
    world = rw (close_left s None e) record {
      same_backlog = agrees.same_backlog;
      clock = agrees.clock;
      shown = is ∙ rw agrees.shown (sym (map-changed_at (face_of work) account_with_close with_close w.accounts s no_account refl));
      jobs = AllZip-changed_second (AgreesJobs work) account_with_close core.queues w.accounts s agrees.jobs
          (λ jobs a here. record { results = here.results; lefts = here.lefts });
      runs = λ t. runs_changed account_with_close w.accounts s t (λ a. refl) ∙ agrees.runs t;
      latest = λ t running. latest_changed account_with_close w.accounts s t (λ a. refl) ∙ agrees.latest t running;
    };
    unit = λ u. ends_beside work M (Close s) core.last.server tt (ends u);
  }

  -- a charge of n ticks of server s
  module _ (s n : ℕ) where
    -- there are as many accounts as servers
    count_is : length w.accounts ≡ length core.faces
    count_is = let e = ap length agrees.shown in omega (arith, length-map w.accounts (face_of work))

    -- it is refused if there is no such server
    pub charge_stranger : length core.faces ≤ s → (reply.Refused error.NoSuchServer ≡ reply_in work M (Charge s n)) × (world_after work (M ⊕ Charge s n) ≡ w)
    charge_stranger ge = let e = refused_stranger w s n (let c = count_is in omega arith) in rw e (refl, charge_refused w s n error.NoSuchServer)

    -- if the server does not run
    pub charge_idle : s < length core.faces → is_running core s ≡ false → (reply.Refused error.NotRunning ≡ reply_in work M (Charge s n)) × (world_after work (M ⊕ Charge s n) ≡ w)
    charge_idle lt idle = let e = refused_idle w s n (let c = count_is in omega arith) (agrees.runs s ∙ idle) in rw e (refl, charge_refused w s n error.NotRunning)

    -- and if the clock would pass its end
    pub charge_late : s < length core.faces → is_running core s ≡ true → clock_end < core.clock + n
        → (reply.Refused error.ClockEnd ≡ reply_in work M (Charge s n)) × (world_after work (M ⊕ Charge s n) ≡ w)
    charge_late lt runs late =
        let e = refused_late w s n (let c = count_is in omega arith) (agrees.runs s ∙ runs) (let c = agrees.clock in omega arith) in
        rw e (refl, charge_refused w s n error.ClockEnd)

    module _ (lt : s < length core.faces) (runs : is_running core s ≡ true) (early : core.clock + n ≤ clock_end) where
      -- else it is accepted
      accepted : charge_refusal w s n ≡ None
      accepted = not_refused w s n (let c = count_is in omega arith) (agrees.runs s ∙ runs) (let c = agrees.clock in omega arith)

      pub charge_answered : reply.Charged ≡ reply_in work M (Charge s n)
      charge_answered = rw accepted refl

      -- one of no tick leaves the world as it is
      pub charge_still : n ≡ 0 → world_after work (M ⊕ Charge s n) ≡ w
      charge_still none = rw accepted (charge_none w s n none)

      -- after the charge and the replenishment the core agrees with one charge more
      pub charge_agrees : {shown : List Face} {rooms : List ℕ} (for_unit : ℕ) → for_unit ≡ charged_at core.clock core.last + n → 0 < n → IsLastUnit core.clock core.faces core.last
          → shown ≡ map (with_replenishment (core.clock + n)) (changed_at (with_charge n for_unit) core.faces s)
          → Agrees work (record { backlog = core.backlog; clock = core.clock + n; last = record core.last { charged = for_unit; charged_to = core.clock + n }; faces = shown; queues = core.queues; rooms = rooms })
          (M ⊕ Charge s n)
      charge_agrees for_unit so_many some before is =
          let v : World W = record w { accounts = changed_at (account_with_charge n) w.accounts s } in
          let place : s < length w.accounts = let c = count_is in omega arith in
          let latest : (account w.accounts s).latest ≡ charged_at core.clock core.last = agrees.latest s runs in
          let unit : (account w.accounts s).latest + n ≡ for_unit = ap (λ m. m + n) latest ∙ sym so_many in
          let face : face_of work (account_with_charge n (account w.accounts s)) ≡ with_charge n for_unit (face_of work (account w.accounts s)) = rw unit refl in
          let moved : eqb core.last.advanced_to (core.clock + n) ≡ false = let a = before.advanced in grind (arith, nat_tests) in
          let paid : eqb (core.clock + n) (core.clock + n) ≡ true = grind (arith, nat_tests) in
          let runner = running_server core s runs in
          record {
            world = rw (accepted, charge_jumps w s n some) record {
              same_backlog = agrees.same_backlog;
              clock = ap (λ m. m + n) agrees.clock;
              shown = is ∙ rw (agrees.shown, agrees.clock) (sym (replenished_faces work (w.now + n) v.accounts
                  ∙ ap (map (with_replenishment (w.now + n))) (map-changed_at (face_of work) (account_with_charge n) (with_charge n for_unit) w.accounts s no_account face)));
              jobs = AllZip-map (AgreesJobs work) (account_with_replenishment (w.now + n)) core.queues v.accounts
                  (AllZip-changed_second (AgreesJobs work) (account_with_charge n) core.queues w.accounts s agrees.jobs (λ jobs a here. record { results = here.results; lefts = here.lefts }))
                  (λ jobs a here. record { results = here.results; lefts = here.lefts });
              runs = λ t. runs_charged w s n t ∙ agrees.runs t ∙ rw (runner.0, moved) refl;
              latest = λ t running.
                  let same : s ≡ t = let y : eqb core.last.server t ≡ true = rw moved at running in let z = runner.1 in grind (arith, nat_tests) in
                  rw (← same, paid) (latest_charged w s n place ∙ unit);
            };
            unit = λ u. ends_beside work M (Charge s n) core.last.server tt (ends u);
          }

  -- The server of the last unit, which runs, ends its job: the core agrees with the history in hindsight
  module _ (ok : IsCore work core) (s : ℕ) (may : may_end core s ≡ true) (cut : ℕ → W → W) (law : IsCut work cut) where
    -- the history without the steps that did nothing, and its unit
    abbrev N : History W
    N = effective work M

    unit_of : EndsWithUnit work N s
    unit_of =
        let runs : is_running core s ≡ true = left_true (is_running core s) core.last.unfinished may in
        rw (running_server core s runs).1 at (ends (rw runs at may))

    abbrev k : ℕ
    k = unit_of.seq

    begun_there : IsBegun work (account_in work N s) k
    begun_there = begun_at work N unit_of.later unit_of.earlier s k unit_of.at

    -- the world in hindsight
    world_is : world_after work (ended work cut s M) ≡ world_cut cut (ending work N s k) w
    world_is =
        ap (λ j. world_after work (hindsight work cut (ending work N s j) N)) begun_there.first
        ∙ (hindsight_kept work N cut law unit_of.later unit_of.earlier s k unit_of.at).world
        ∙ ap (world_cut cut (ending work N s k)) (effective_kept work M)

    pub ended_agrees : {shown : List Face} {queues : List (List W)} {rooms : List ℕ} → shown ≡ changed_at with_job_ended core.faces s → queues ≡ changed_at (drop 1) core.queues s
        → Agrees work (record { backlog = core.backlog; clock = core.clock; last = record core.last { unfinished = false }; faces = shown; queues = queues; rooms = rooms }) (ended work cut s M)
    ended_agrees {shown} {queues} {rooms} is left =
        let new : CoreHeld W = record { backlog = core.backlog; clock = core.clock; last = record core.last { unfinished = false }; faces = shown; queues = queues; rooms = rooms } in
        let e = ending work N s k in
        let lt = (may_end_there ok s may).0 in
        let a = account w.accounts s in
        let begun : IsBegun work a k = subst (λ (v : World W). IsBegun work (account v.accounts s) k) (effective_kept work M) begun_there in
        let units : e.units ≡ a.got - need work a k = ap (λ (v : World W). (account v.accounts s).got - need work (account v.accounts s) k) (effective_kept work M) in
        let last : need work a k + e.units ≡ a.got = let b = begun.begun in omega arith in
        let all = (backlog_at ok s lt).unfinished in
        let jobs = list_at core.queues s in
        record {
          world = subst (λ (v : World W). AgreesWorld work new M.setup.backlog v) (sym world_is) record {
            same_backlog = agrees.same_backlog;
            clock = agrees.clock;
            shown = is ∙ ap (λ fs. changed_at with_job_ended fs s) agrees.shown ∙ sym (map-changed_at (face_of work) (account_cut cut e) with_job_ended w.accounts s no_account
                (ended_face work cut law a k e.units begun last jobs (jobs_are s lt) all e refl refl));
            jobs = rw left (AllZip-changed_at (AgreesJobs work) core.queues w.accounts s [] no_account (drop 1) (account_cut cut e) agrees.jobs (within_queues s lt)
                (λ here. ended_jobs work cut law a k e.units begun last jobs here all e refl refl));
            runs = λ t. runs_changed (account_cut cut e) w.accounts s t (λ b. refl) ∙ agrees.runs t;
            latest = λ t running. latest_changed (account_cut cut e) w.accounts s t (λ b. refl) ∙ agrees.latest t running;
          };
          unit = λ u. cc;
        }
