-- What each core keeps, through each step.
use Rattle.std.proofs.Common.{Bool, false, not, ◌&&◌, drop, length-drop, ◌≡◌, ◌≢◌, ℕ, zero, suc, ◌+◌, ◌-◌, ◌*◌, ◌≤◌, ◌<◌, ◌^◌, true, List, [], ◌∷◌, ◌++◌, length, map, replicate, refl, ◌∙◌, ap, arith, eqb, inl}
use Rattle.std.proofs.Common.{inr, Some, None, sym, is_some, length-append}
use Rattle.std.specs.Prelude.{slice_get, Result, IfOk, OnOk}
use Rattle.std.proofs.lemmas.Bool.{cases_lt, cases_Bool}
use Rattle.std.proofs.lemmas.Option.{slice_get-get_or, slice_get_past}
use Rattle.std.proofs.lemmas.List.{length-map}
use Rattle.std.specs.List.{AllByRecursion, AllZip}
use Rattle.cbs_job.specs.Work.{Meaning}
use Rattle.cbs_rate.specs.Rate.{Rate, IsRate}
use Rattle.cbs_rate.specs.Plan.{total_share, all_periods}
use Rattle.cbs_rate.proofs.Lists.{AllByRecursion-push}
use Rattle.cbs_rules.specs.Rules.{clock_end, latest_deadline}
use Rattle.cbs_rules.specs.declared.mode.Mode.{Mode}
use Rattle.cbs_lists.specs.Lists.{changed_at}
use Rattle.cbs_steps.specs.Choice.{IsChoice}
use Rattle.cbs_steps.specs.Faces.{Face, new_face, no_face, face_at, is_ready, backlog_of, reservations, ranks, with_job, with_unit, with_charge}
use Rattle.cbs_steps.specs.Faces.{with_replenishment, with_close, submit_refusal, view_reply}
use Rattle.cbs_steps.specs.Laws.{IsWithinBudget}
use Rattle.cbs_core.specs.Held.{KeepsBudgets, CoreHeld, Accepts, is_running, charged_at, may_end, last_joined, with_job_ended}
use Rattle.cbs_core.specs.declared.last_unit.LastUnit.{LastUnit}
use Rattle.cbs_core.proofs.Running.{running_server}
use Rattle.cbs_rules.proofs.Deadlines.{begun_after_unit, begun_after_charge, begun_after_replenishment}
use Rattle.cbs_steps.proofs.LawfulServers.{arrives_in}
use Rattle.std.proofs.lemmas.Nat.{mul-le}
use Rattle.std.proofs.lemmas.Bool.Decides.{nat_tests}
use Rattle.cbs_steps.specs.declared.error.CoreError.{CoreError}
use Rattle.cbs_steps.specs.declared.view.ServerView.{ServerView}
use Rattle.cbs_queues.specs.Queues.{list_at, jobs_run, result_run}
use Rattle.cbs_steps.specs.Setups.{terms_of}
use Rattle.cbs_core.specs.Invariant.{HoldsBacklog, IsCore, IsLastUnit, IsUnfinished}
use Rattle.cbs_steps.specs.Servers.{IsServer, MayCharge}
use Rattle.cbs_steps.proofs.Faces.{rank_ready, runnable}
use Rattle.cbs_steps.proofs.FaceSteps.{server_new, server_later, server_replenished, server_closed, server_joined, server_run, server_charged, budget_some, within_budget}
use Rattle.cbs_lists.proofs.Lists.{map_kept, changed_kept, changed_here, length-changed_at, AllByRecursion-map, AllByRecursion-weaker, AllByRecursion-get, AllByRecursion-changed_at}
use Rattle.cbs_lists.proofs.Lists.{AllZip-length, AllZip-get, AllZip-map, AllZip-replicate, AllZip-changed_at, AllZip-changed_second}
use Rattle.cbs_steps.proofs.Plans.{length-faces, new_reservations}
use Rattle.cbs_queues.proofs.QueueRuns.{unfinished_run}
use Rattle.cbs_core.proofs.Refusals.{free_accepts}

-- the reservation of a server
abbrev reservation : Face → Rate
reservation f = f.terms.reservation

-- a new core
module _ {W : Type 0} (work : Meaning W) (backlog : ℕ) where
  -- if each rate is within the limits of a reservation, each new server keeps what a server keeps
  all_new : (modes : List Mode) (rates : List Rate) → AllByRecursion (λ r. IsRate r.budget r.period) rates
      → AllByRecursion (IsServer backlog 0) (map new_face (terms_of modes rates))
  all_new [] rates ok = tt
  all_new (m ∷ modes) [] ok = tt
  all_new (m ∷ modes) (r ∷ rates) ok = (server_new backlog 0 (record { mode = m; reservation = r }) ok.0, all_new modes rates ok.1)

  -- a new core keeps all
  pub core_new : (modes : List Mode) (rates : List Rate) (n : ℕ) (faces : List Face) (queues : List (List W)) (rooms : List ℕ)
      → length modes ≡ length rates → length rates ≤ 64 → backlog ≤ 4096
      → AllByRecursion (λ r. IsRate r.budget r.period) rates → total_share rates ≤ all_periods rates → faces ≡ map new_face (terms_of modes rates)
      → n ≡ length faces → queues ≡ replicate n [] → IsCore work (record { backlog = backlog; clock = 0; last = record { server = 0; advanced_to = 0; charged = 0; charged_to = 0; unfinished = false }; faces = faces; queues = queues; rooms = rooms })
  core_new modes rates n faces queues rooms same few small ok one shown count empty =
      let size : n ≡ length (terms_of modes rates) = count ∙ ap length shown ∙ length-map (terms_of modes rates) new_face in
      record {
        few = rw (shown, length-faces modes rates same) few;
        small = small;
        clock = omega arith;
        at_most_one = rw (shown, new_reservations modes rates same) one;
        each = rw shown (all_new modes rates ok);
        jobs = rw (shown, empty, size)
            (AllZip-replicate (HoldsBacklog work) [] new_face (terms_of modes rates) (λ t. record { counted = refl; unfinished = tt }));
        last = record { advanced = omega arith; charged = omega arith; few = omega arith; there = λ ne. absurd (ne refl); begun = λ ne. absurd (ne refl); unfinished = λ e. cc };
      }

-- if both hold, the first holds
pub left_true : (a b : Bool) → (a && b) ≡ true → a ≡ true
left_true true b e = refl
left_true false b e = e

-- what a run of server s may rest on
pub record MayRun {W : Type 0} (work : Meaning W) (core : CoreHeld W) (s : ℕ) : Type 0 where
  pub early : core.clock < clock_end
  pub within : s < length core.faces
  pub queue : s < length core.queues
  pub ready : is_ready (face_at core.faces s) ≡ true
  pub active : 0 < length (list_at core.queues s)
  pub unfinished : AllByRecursion (λ w. 0 < work.left w) (list_at core.queues s)
  pub budget : 0 < (face_at core.faces s).state.budget
  pub room : (face_at core.faces s).state.deadline ≤ latest_deadline
  pub begun : 0 < (face_at core.faces s).state.deadline
  pub last : IsLastUnit core.clock core.faces core.last

-- a change of one server keeps that a job of it is unfinished, if it keeps how many jobs are
unfinished_changed : (clock : ℕ) (f : Face → Face) (fs : List Face) (s t : ℕ) → ((x : Face) → IsUnfinished clock x → IsUnfinished clock (f x))
    → IsUnfinished clock (face_at fs t) → IsUnfinished clock (face_at (changed_at f fs s) t)
unfinished_changed clock f [] s t keeps h = h
unfinished_changed clock f (x ∷ fs) zero zero keeps h = keeps x h
unfinished_changed clock f (x ∷ fs) zero (suc t) keeps h = h
unfinished_changed clock f (x ∷ fs) (suc s) zero keeps h = h
unfinished_changed clock f (x ∷ fs) (suc s) (suc t) keeps h = unfinished_changed clock f fs s t keeps h

-- a change of one server keeps what is known of the last unit, if each server that had begun has still begun
last_changed : (clock : ℕ) (f : Face → Face) (faces : List Face) (s : ℕ) (l : LastUnit) → (0 < (face_at faces s).state.deadline → 0 < (f (face_at faces s)).state.deadline)
    → (l.unfinished ≡ true → (x : Face) → IsUnfinished clock x → IsUnfinished clock (f x)) → IsLastUnit clock faces l → IsLastUnit clock (changed_at f faces s) l
last_changed clock f faces s l keeps counts is = record {
  unfinished = λ e. unfinished_changed clock f faces s l.server (counts e) (is.unfinished e);
  advanced = is.advanced;
  charged = is.charged;
  few = is.few;
  there = λ ne. let lt = is.there ne in omega (arith, length-changed_at f faces s);
  begun = λ ne. begun_changed f faces s l.server keeps (is.begun ne);
}
  where
    begun_changed : (f : Face → Face) (fs : List Face) (s t : ℕ) → (0 < (face_at fs s).state.deadline → 0 < (f (face_at fs s)).state.deadline)
        → 0 < (face_at fs t).state.deadline → 0 < (face_at (changed_at f fs s) t).state.deadline
    begun_changed f [] s t keeps h = h
    begun_changed f (x ∷ fs) zero zero keeps h = keeps h
    begun_changed f (x ∷ fs) zero (suc t) keeps h = h
    begun_changed f (x ∷ fs) (suc s) zero keeps h = h
    begun_changed f (x ∷ fs) (suc s) (suc t) keeps h = begun_changed f fs s t keeps h

-- so do replenishments
last_replenished : (clock now : ℕ) (faces : List Face) (l : LastUnit) → IsLastUnit clock faces l → IsLastUnit clock (map (with_replenishment now) faces) l
last_replenished clock now faces l is = record {
  unfinished = λ e. unfinished_replenished faces l.server (is.unfinished e);
  advanced = is.advanced;
  charged = is.charged;
  few = is.few;
  there = λ ne. let lt = is.there ne in omega (arith, length-map faces (with_replenishment now));
  begun = λ ne. begun_replenished faces l.server (is.begun ne);
}
  where
    unfinished_replenished : (fs : List Face) (t : ℕ) → IsUnfinished clock (face_at fs t) → IsUnfinished clock (face_at (map (with_replenishment now) fs) t)
    unfinished_replenished [] t h = h
    unfinished_replenished (f ∷ fs) zero h = record { active = h.active; early = h.early }
    unfinished_replenished (f ∷ fs) (suc t) h = unfinished_replenished fs t h

    begun_replenished : (fs : List Face) (t : ℕ) → 0 < (face_at fs t).state.deadline → 0 < (face_at (map (with_replenishment now) fs) t).state.deadline
    begun_replenished [] t h = h
    begun_replenished (f ∷ fs) zero h = begun_after_replenishment f.terms.reservation now f.state h
    begun_replenished (f ∷ fs) (suc t) h = begun_replenished fs t h

module _ {W : Type 0} {work : Meaning W} {core : CoreHeld W} (ok : IsCore work core) where
  -- each server of a core keeps what a server keeps
  pub server_at : (s : ℕ) → s < length core.faces → IsServer core.backlog core.clock (face_at core.faces s)
  server_at s lt = AllByRecursion-get (IsServer core.backlog core.clock) core.faces s no_face ok.each lt

  -- there are as many queues as servers
  pub queue_count : length core.queues ≡ length core.faces
  queue_count = AllZip-length (HoldsBacklog work) core.queues core.faces ok.jobs

  -- a server that a job may come in for has a queue
  pub queue_there : (s : ℕ) → None ≡ submit_refusal core.backlog core.faces s → s < length core.queues
  queue_there s free =
      let n = queue_count in
      let lt = (free_accepts {core = core} refl s free).is_open.within in
      omega arith

  -- each server holds its backlog
  pub backlog_at : (s : ℕ) → s < length core.faces → HoldsBacklog work (list_at core.queues s) (face_at core.faces s)
  backlog_at s lt = AllZip-get (HoldsBacklog work) core.queues core.faces s [] no_face ok.jobs (let n = queue_count in omega arith)

  -- a server that a job may come in for holds fewer jobs than the greatest backlog is
  pub few_held : (s : ℕ) → Accepts core s → length (list_at core.queues s) < 4096
  few_held s accepts = let held = (backlog_at s accepts.is_open.within).counted in let few = accepts.few in let small = ok.small in omega arith

  -- the deadline that a view shows is within its limit
  pub view_early : (s : ℕ) (r : Result ServerView CoreError) → r ≡ view_reply (slice_get core.faces s)
      → IfOk r (λ v. v.deadline ≤ core.clock + (core.clock + 1) * 1000000000)
  view_early s r e = elim (cases_lt s (length core.faces)) [
    | inl lt ↦ rw (e, slice_get-get_or core.faces s no_face lt) (server_at s lt).early
    | inr ge ↦ rw (e, slice_get_past core.faces s ge) tt
  ]

  -- the budget of each server is within its reservation's
  pub budgets_kept : KeepsBudgets core
  budgets_kept s lt = within_budget core.backlog core.clock (face_at core.faces s) (server_at s lt)

  -- and the budget is within its own
  pub view_budget : (s : ℕ) (r : Result ServerView CoreError) → r ≡ view_reply (slice_get core.faces s) → OnOk r (IsWithinBudget (face_at core.faces s))
  view_budget s r e = elim (cases_lt s (length core.faces)) [
    | inl lt ↦ rw (e, slice_get-get_or core.faces s no_face lt) (budgets_kept s lt)
    | inr ge ↦ rw (e, slice_get_past core.faces s ge) tt
  ]

  -- before the clock's end the chosen server may run
  pub may_run : {s : ℕ} → IsChoice (ranks core.faces) (length core.faces) (Some s) → core.clock < clock_end
      → MayRun work core s
  may_run {s} choice early =
      let within = choice.within in
      let ready = sym (rank_ready core.faces s) ∙ choice.ready in
      let is = server_at s within in
      let held = backlog_at s within in
      record {
        early = early;
        within = within;
        queue = let n = queue_count in omega arith;
        ready = ready;
        active = let c = held.counted in let a = (runnable (face_at core.faces s) ready).active in omega arith;
        unfinished = held.unfinished;
        budget = budget_some core.backlog core.clock (face_at core.faces s) is ready;
        room = let e = is.early in omega arith;
        begun = is.begun (let a = (runnable (face_at core.faces s) ready).active in grind (arith, nat_tests));
        last = ok.last;
      }

  -- a server that runs is there
  pub running_there : (s : ℕ) → is_running core s ≡ true → s < length core.faces
  running_there s runs =
      let runner = running_server core s runs in
      let moved : core.last.advanced_to ≢ core.clock = λ q. let y : eqb core.last.advanced_to core.clock ≡ true = grind (arith, nat_tests) in let z = runner.0 in cc in
      rw runner.1 at (ok.last.there moved)

  -- a server that runs may be charged so many ticks, if the clock allows them
  pub may_charge : (s n : ℕ) → s < length core.faces → is_running core s ≡ true → 0 < n → core.clock + n ≤ clock_end → MayCharge n (face_at core.faces s)
  may_charge s n lt runs some early =
      let is = server_at s lt in
      let runner = running_server core s runs in
      let e = is.early in
      let p = is.lawful.short in
      let m = mul-le n (face_at core.faces s).terms.reservation.period n 1000000000 (omega arith) p in
      let moved : core.last.advanced_to ≢ core.clock = λ q. let y : eqb core.last.advanced_to core.clock ≡ true = grind (arith, nat_tests) in let z = runner.0 in cc in
      record {
        some = some;
        few = omega arith;
        free = is.free;
        begun = rw runner.1 at (ok.last.begun moved);
        room = omega arith;
        counted = let c = is.few_charged in omega arith;
      }

  -- another number fits for the jobs of a server
  pub few_jobs : (s : ℕ) → s < length core.faces → (face_at core.faces s).accepted + 1 < 2 ^ 64
  few_jobs s lt = let b = server_at s lt in let c = b.counted in let f = b.few_done in let j = b.few_jobs in let k = ok.clock in let m = ok.small in omega arith

  -- after a unit of the first job, as many jobs are held as the backlog is, as there were before
  counted_run : (jobs : List W) (f : Face) → 0 < length jobs → length jobs ≡ backlog_of f
      → length (jobs_run work jobs) ≡ backlog_of (with_unit (is_some (result_run work jobs)) f)
  counted_run [] f some e = absurd (omega arith)
  counted_run (job ∷ jobs) f some e = elim (cases_Bool (eqb (work.left (work.after job)) 0)) [ inl t ↦ rw t (omega arith) | inr n ↦ rw n (omega arith) ]

  -- what each core keeps, from what a step leaves of the servers and of their jobs
  pub core_made : (clock : ℕ) (last : LastUnit) (faces : List Face) (queues : List (List W)) (rooms : List ℕ) → clock ≤ clock_end → reservations faces ≡ reservations core.faces
      → AllByRecursion (IsServer core.backlog clock) faces → AllZip (HoldsBacklog work) queues faces → IsLastUnit clock faces last
      → IsCore work (record { backlog = core.backlog; clock = clock; last = last; faces = faces; queues = queues; rooms = rooms })
  core_made clock last faces queues rooms early same each jobs known = record {
    few = let n = ap length same in omega (arith, ok.few, length-map faces reservation, length-map core.faces reservation);
    small = ok.small;
    clock = early;
    at_most_one = rw same ok.at_most_one;
    each = each;
    jobs = jobs;
    last = known;
  }

  -- the same if all are then replenished
  core_replenished : (now : ℕ) (last : LastUnit) (faces : List Face) (queues : List (List W)) (rooms : List ℕ) → now ≤ clock_end → reservations faces ≡ reservations core.faces
      → AllByRecursion (IsServer core.backlog now) faces → AllZip (HoldsBacklog work) queues faces → IsLastUnit now faces last
      → IsCore work (record { backlog = core.backlog; clock = now; last = last; faces = map (with_replenishment now) faces; queues = queues; rooms = rooms })
  core_replenished now last faces queues rooms early same each jobs known = core_made now last _ queues rooms early
      (map_kept reservation (with_replenishment now) faces (λ f. refl) ∙ same)
      (AllByRecursion-map _ _ (with_replenishment now) faces each (server_replenished core.backlog now))
      (AllZip-map _ (with_replenishment now) queues faces jobs (λ jobs f h. record { counted = h.counted; unfinished = h.unfinished }))
      (last_replenished now now faces last known)

  -- a run of server s, by what it does to faces and queues
  pub core_run : {s : ℕ} {faces : List Face} {queues : List (List W)} {rooms : List ℕ} (left : Bool) → MayRun work core s
      → (left ≡ true → result_run work (list_at core.queues s) ≡ None)
      → faces ≡ map (with_replenishment (core.clock + 1)) (changed_at (with_unit (is_some (result_run work (list_at core.queues s)))) core.faces s)
      → queues ≡ changed_at (jobs_run work) core.queues s
      → IsCore work (record { backlog = core.backlog; clock = core.clock + 1; last = record core.last { server = s; unfinished = left }; faces = faces; queues = queues; rooms = rooms })
  core_run {s} {faces} {queues} {rooms} left may more shown run =
      let done = is_some (result_run work (list_at core.queues s)) in
      let here : face_at (changed_at (with_unit done) core.faces s) s ≡ with_unit done (face_at core.faces s) = changed_here (with_unit done) core.faces s no_face may.within in
      let a = ok.last.advanced in
      let b = ok.last.charged in
      let c = ok.last.few in
      rw (shown, run) (core_replenished (core.clock + 1) (record core.last { server = s; unfinished = left }) (changed_at (with_unit done) core.faces s) _ rooms (let e = may.early in omega arith)
      (changed_kept reservation (with_unit done) core.faces s (λ f. refl))
      (AllByRecursion-changed_at _ _ (with_unit done) core.faces s no_face ok.each
      (λ f is. server_later core.backlog core.clock f is (core.clock + 1) (omega arith))
      (λ is. server_run core.backlog core.clock (face_at core.faces s) is done may.ready))
      (AllZip-changed_at _ core.queues core.faces s [] no_face (jobs_run work) (with_unit done) ok.jobs may.queue
      (λ h. record {
        counted = counted_run (list_at core.queues s) (face_at core.faces s) may.active h.counted;
        unfinished = unfinished_run work (list_at core.queues s) h.unfinished;
      }))
      (record {
        advanced = omega arith;
        charged = omega arith;
        few = omega arith;
        there = λ ne. let lt = may.within in omega (arith, length-changed_at (with_unit done) core.faces s);
        unfinished = λ e.
            let none : done ≡ false = ap is_some (more e) in
            let f = server_at s may.within in
            let active = (runnable (face_at core.faces s) may.ready).active in
            let few = f.few_done in
            rw (here, none) record { active = omega arith; early = omega arith };
        begun = λ ne. rw here (begun_after_unit (face_at core.faces s).terms.mode (face_at core.faces s).terms.reservation (face_at core.faces s).state may.begun);
      }))

  -- a jump by n ticks
  pub core_jumped : (n : ℕ) {faces : List Face} {rooms : List ℕ} → n ≤ clock_end - core.clock
      → faces ≡ map (with_replenishment (core.clock + n)) core.faces
      → IsCore work (record { backlog = core.backlog; clock = core.clock + n; last = record core.last { advanced_to = core.clock + n }; faces = faces; queues = core.queues; rooms = rooms })
  core_jumped n {faces} {rooms} late shown =
      let b = ok.last.charged in
      let c = ok.last.few in
      rw shown (core_replenished (core.clock + n) (record core.last { advanced_to = core.clock + n }) core.faces core.queues rooms (let k = ok.clock in omega arith) refl
      (AllByRecursion-weaker _ _ core.faces ok.each (λ f is. server_later core.backlog core.clock f is (core.clock + n) (omega arith))) ok.jobs
      (record {
        advanced = omega arith;
        charged = omega arith;
        few = omega arith;
        there = λ ne. absurd (ne refl);
        begun = λ ne. absurd (ne refl);
        unfinished = λ e. let u = ok.last.unfinished e in record { active = u.active; early = let t = u.early in omega arith };
      }))

  -- a charge of n ticks of server s, which runs
  pub core_charged : (s n for_unit : ℕ) {faces : List Face} {rooms : List ℕ} → for_unit ≡ charged_at core.clock core.last + n
      → s < length core.faces → is_running core s ≡ true → 0 < n → core.clock + n ≤ clock_end
      → faces ≡ map (with_replenishment (core.clock + n)) (changed_at (with_charge n for_unit) core.faces s)
      → IsCore work (record { backlog = core.backlog; clock = core.clock + n; last = record core.last { charged = for_unit; charged_to = core.clock + n }; faces = faces; queues = core.queues; rooms = rooms })
  core_charged s n for_unit {faces} {rooms} so_many lt runs some early shown =
      let last : LastUnit = record core.last { charged = for_unit; charged_to = core.clock + n } in
      let is = server_at s lt in
      let may = may_charge s n lt runs some early in
      let a = ok.last.advanced in
      let few : charged_at core.clock core.last ≤ core.clock = let c = ok.last.few in grind (arith, nat_tests) in
      let here : face_at (changed_at (with_charge n for_unit) core.faces s) s ≡ with_charge n for_unit (face_at core.faces s) = changed_here (with_charge n for_unit) core.faces s no_face lt in
      let runner = (running_server core s runs).1 in
      rw shown (core_replenished (core.clock + n) last (changed_at (with_charge n for_unit) core.faces s) core.queues rooms early
      (changed_kept reservation (with_charge n for_unit) core.faces s (λ f. refl))
      (AllByRecursion-changed_at _ _ (with_charge n for_unit) core.faces s no_face ok.each
      (λ f is. server_later core.backlog core.clock f is (core.clock + n) (omega arith))
      (λ is. server_charged core.backlog core.clock (face_at core.faces s) is n for_unit may))
      (AllZip-changed_second _ (with_charge n for_unit) core.queues core.faces s ok.jobs (λ jobs f h. record { counted = h.counted; unfinished = h.unfinished }))
      (record {
        advanced = omega arith;
        charged = omega arith;
        few = omega arith;
        there = λ ne. omega (arith, length-changed_at (with_charge n for_unit) core.faces s);
        unfinished = λ e. unfinished_changed (core.clock + n) (with_charge n for_unit) core.faces s core.last.server
            (λ x u. record { active = u.active; early = u.early }) (let u = ok.last.unfinished e in record { active = u.active; early = let t = u.early in omega arith });
        begun = λ ne. rw (runner, here) (begun_after_charge (face_at core.faces s).terms.mode (face_at core.faces s).terms.reservation n (face_at core.faces s).state may.begun);
      }))

  -- one more job of server s
  pub core_joined : (s : ℕ) (job : W) {faces : List Face} {queues : List (List W)} {rooms : List ℕ} → Accepts core s → 0 < work.left job
      → faces ≡ changed_at (with_job core.clock) core.faces s → queues ≡ changed_at (λ jobs. jobs ++ job ∷ []) core.queues s
      → IsCore work (record { backlog = core.backlog; clock = core.clock; last = last_joined core s; faces = faces; queues = queues; rooms = rooms })
  core_joined s job {faces} {queues} {rooms} accepts some shown joined = rw (shown, joined) (core_made core.clock (last_joined core s) _ _ rooms ok.clock
      (changed_kept reservation (with_job core.clock) core.faces s (λ f. refl))
      (AllByRecursion-changed_at _ _ (with_job core.clock) core.faces s no_face ok.each (λ f is. is)
      (λ is. server_joined core.backlog core.clock (face_at core.faces s) is accepts.few))
      (AllZip-changed_at _ core.queues core.faces s [] no_face (λ jobs. jobs ++ job ∷ []) (with_job core.clock)
      ok.jobs (let n = queue_count in let lt = accepts.is_open.within in omega arith)
      (λ h. record {
        counted = let c = h.counted in let k = (server_at s accepts.is_open.within).counted in omega
            (arith, length-append (list_at core.queues s) (job ∷ []));
        unfinished = AllByRecursion-push (λ w. 0 < work.left w) (list_at core.queues s) job h.unfinished some;
      }))
      (last_changed core.clock (with_job core.clock) core.faces s (last_joined core s)
      (λ h. let is = server_at s accepts.is_open.within in
      (arrives_in core.clock (face_at core.faces s) is.lawful is.state is.begun (core.clock + (core.clock + 1) * 1000000000) is.early (let p = is.lawful.short in omega arith)).begun)
      (λ e x u. record { active = let a = u.active in omega arith; early = u.early })
      (record {
        advanced = ok.last.advanced;
        charged = ok.last.charged;
        few = ok.last.few;
        there = ok.last.there;
        begun = ok.last.begun;
        unfinished = λ e. ok.last.unfinished (left_true core.last.unfinished (not (eqb core.last.server s)) e);
      })))

  -- server s is closed
  pub core_closed : (s : ℕ) {faces : List Face} {rooms : List ℕ} → s < length core.faces → faces ≡ changed_at with_close core.faces s
      → IsCore work (record { backlog = core.backlog; clock = core.clock; last = core.last; faces = faces; queues = core.queues; rooms = rooms })
  core_closed s {faces} {rooms} lt shown = rw shown (core_made core.clock core.last _ core.queues rooms ok.clock
      (changed_kept reservation with_close core.faces s (λ f. refl))
      (AllByRecursion-changed_at _ _ with_close core.faces s no_face ok.each (λ f is. is) (server_closed core.backlog core.clock (face_at core.faces s)))
      (AllZip-changed_second _ with_close core.queues core.faces s ok.jobs (λ jobs f h. record { counted = h.counted; unfinished = h.unfinished }))
      (last_changed core.clock with_close core.faces s core.last (λ h. h) (λ e x u. record { active = u.active; early = u.early }) ok.last))

  -- the server of the last unit, which runs, has a job that is unfinished
  pub may_end_there : (s : ℕ) → may_end core s ≡ true → (s < length core.faces) × IsUnfinished core.clock (face_at core.faces s)
  may_end_there s may =
      let runs : is_running core s ≡ true = left_true (is_running core s) core.last.unfinished may in
      let open_unit : core.last.unfinished ≡ true = rw runs at may in
      let runner = running_server core s runs in
      (running_there s runs, rw runner.1 at (ok.last.unfinished open_unit))

  -- that job is ended
  pub core_ended : (s : ℕ) {faces : List Face} {queues : List (List W)} {rooms : List ℕ} → may_end core s ≡ true
      → faces ≡ changed_at with_job_ended core.faces s → queues ≡ changed_at (drop 1) core.queues s
      → IsCore work (record { backlog = core.backlog; clock = core.clock; last = record core.last { unfinished = false }; faces = faces; queues = queues; rooms = rooms })
  core_ended s {faces} {queues} {rooms} may shown left =
      let there = may_end_there s may in
      let lt = there.0 in
      let active = there.1.active in
      let early = there.1.early in
      rw (shown, left) (core_made core.clock (record core.last { unfinished = false }) _ _ rooms ok.clock
      (changed_kept reservation with_job_ended core.faces s (λ f. refl))
      (AllByRecursion-changed_at _ _ with_job_ended core.faces s no_face ok.each (λ f is. is)
      (λ is. record {
        lawful = is.lawful;
        state = is.state;
        free = is.free;
        begun = λ _. is.begun (grind (arith, nat_tests));
        early = is.early;
        counted = omega arith;
        few_done = omega arith;
        few_charged = is.few_charged;
        few_jobs = let j = is.few_jobs in omega arith;
      }))
      (AllZip-changed_at _ core.queues core.faces s [] no_face (drop 1) with_job_ended ok.jobs (let n = queue_count in omega arith)
      (λ h. record {
        counted = let c = h.counted in omega (arith, length-drop 1 (list_at core.queues s));
        unfinished = rest (list_at core.queues s) h.unfinished;
      }))
      (last_changed core.clock with_job_ended core.faces s (record core.last { unfinished = false }) (λ h. h) (λ e. cc)
      (record { advanced = ok.last.advanced; charged = ok.last.charged; few = ok.last.few; there = ok.last.there; begun = ok.last.begun; unfinished = λ e. cc })))
    where
      rest : (jobs : List W) → AllByRecursion (λ w. 0 < work.left w) jobs → AllByRecursion (λ w. 0 < work.left w) (drop 1 jobs)
      rest [] all = tt
      rest (job ∷ jobs) all = all.1

  -- a unit of server s, in the next tick, leaves it as the one that runs
  pub run_runs : (s : ℕ) (left : Bool) (faces : List Face) (queues : List (List W)) (rooms : List ℕ)
      → is_running (record { backlog = core.backlog; clock = core.clock + 1; last = record core.last { server = s; unfinished = left }; faces = faces; queues = queues; rooms = rooms }) s ≡ true
  run_runs s left faces queues rooms =
      let a = ok.last.advanced in
      let moved : eqb core.last.advanced_to (core.clock + 1) ≡ false = grind (arith, nat_tests) in
      let same : eqb s s ≡ true = grind (arith, nat_tests) in
      rw (moved, same) refl

  -- after a charge of some ticks of a server that runs, the same server runs
  pub charged_may : (s n for_unit : ℕ) (faces : List Face) (queues : List (List W)) (rooms : List ℕ) → is_running core s ≡ true → 0 < n → (t : ℕ)
      → may_end (record { backlog = core.backlog; clock = core.clock + n; last = record core.last { charged = for_unit; charged_to = core.clock + n }; faces = faces; queues = queues; rooms = rooms }) t
      ≡ may_end core t
  charged_may s n for_unit faces queues rooms runs some t =
      let a = ok.last.advanced in
      let moved : eqb core.last.advanced_to (core.clock + n) ≡ false = grind (arith, nat_tests) in
      let before = (running_server core s runs).0 in
      rw (moved, before) refl

-- if the second is false, not both hold
pub right_false : (b : Bool) → (b && false) ≡ false
right_false true = refl
right_false false = refl
