-- What a core holds, of each job only the units that are left, agrees with its history, of each job only the units.
use Rattle.std.proofs.Common.{◌≡◌, ℕ, ◌+◌, ◌-◌, Bool, true, false, List, [], ◌∷◌, length, map, refl, sym, ap, subst, ◌∙◌, arith}
use Rattle.std.specs.Prelude.{if◌then◌else◌}
use Rattle.std.specs.List.{AllZip, AllByRecursion}
use Rattle.std.proofs.lemmas.List.{length-map, drop-map, map-append}
use Rattle.cbs_job.specs.Work.{Meaning, whole}
use Rattle.cbs_steps.specs.Accounts.{Account, finished, need, unfinished}
use Rattle.cbs_steps.specs.History.{World, Setup, History, after, world_after}
use Rattle.cbs_steps.specs.Continuations.{◌⊕⊕◌}
use Rattle.cbs_steps.specs.Promises.{when}
use Rattle.cbs_steps.specs.declared.step.Step.{Step}
use Rattle.cbs_steps.specs.declared.step.Step.TheVariants.{Submit, Run, Advance, Close, Charge}
use Rattle.cbs_hindsight.specs.Hindsight.{does_nothing, effective_steps, effective, IsBeside, EndsWithUnit}
use Rattle.cbs_core.specs.Agreement.{Agrees, AgreesWorld, AgreesJobs, with_first_number}
use Rattle.cbs_core.specs.Held.{CoreHeld}
use Rattle.cbs_units.specs.declared.count.CountJob.{CountJob}
use Rattle.cbs_units.specs.Counting.{counting, counted, counted_step, counted_account, counted_history, counted_world, counted_reply}
use Rattle.cbs_units.proofs.Accounts.{map_both, need_same, finished_same, faces_same, chosen_same, account_same}
use Rattle.cbs_units.proofs.Worlds.{world_same}
use Rattle.cbs_units.proofs.Replies.{no_output, reply_same}
use Rattle.cbs_recorded.specs.Records.{counted_core, AsItWasFrom}
use Rattle.cbs_recorded.proofs.Told.{counted_more, has_steps, shows_after}

-- as many results, each 0
zeros : (xs ys : List CountJob) → length xs ≡ length ys → map (whole counting) xs ≡ map (whole counting) ys
zeros [] [] e = refl
zeros [] (y ∷ ys) e = absurd (omega arith)
zeros (x ∷ xs) [] e = absurd (omega arith)
zeros (x ∷ xs) (y ∷ ys) e = rw (no_output counting x.units x, no_output counting y.units y, zeros xs ys (omega arith)) refl

module _ {W : Type 0} (work : Meaning W) where
  -- the jobs that are held for a server
  unfinished_same : (a : Account W) → unfinished counting (counted_account work a) ≡ map (counted work) (unfinished work a)
  unfinished_same a = rw (finished_same work a) (drop-map (counted work) (finished work a) a.accepted)

  jobs_same : (jobs : List W) (a : Account W) → AgreesJobs work jobs a → AgreesJobs counting (map (counted work) jobs) (counted_account work a)
  jobs_same jobs a h =
      let many : length jobs ≡ length (unfinished work a) = sym (length-map jobs (whole work)) ∙ (ap length h.results ∙ length-map (unfinished work a) (whole work)) in
      record {
        results = rw (unfinished_same a) (zeros (map (counted work) jobs) (map (counted work) (unfinished work a))
            (length-map jobs (counted work) ∙ (many ∙ sym (length-map (unfinished work a) (counted work)))));
        lefts = rw (unfinished_same a, finished_same work a, need_same work a (finished work a + 1))
            (map_both (counted work) (λ (j : CountJob). j.units) work.left jobs (λ j. refl)
            ∙ (h.lefts ∙ ap (with_first_number (need work a (finished work a + 1) - a.got)) (sym (map_both (counted work) (λ (j : CountJob). j.units) work.left (unfinished work a) (λ j. refl)))));
      }

  all_jobs_same : (queues : List (List W)) (accounts : List (Account W)) → AllZip (AgreesJobs work) queues accounts
      → AllZip (AgreesJobs counting) (map (map (counted work)) queues) (map (counted_account work) accounts)
  all_jobs_same [] [] h = h
  all_jobs_same (q ∷ queues) (a ∷ accounts) h = (jobs_same q a h.0, all_jobs_same queues accounts h.1)
  all_jobs_same _ _ h = absurd h

  -- the steps that did nothing are the same
  nothing_same : (backlog : ℕ) (w : World W) (x : Step W) → does_nothing counting backlog (counted_world work w) (counted_step work x) ≡ does_nothing work backlog w x
  nothing_same backlog w (Submit s job) = rw (faces_same work w) refl
  nothing_same backlog w Run = rw (chosen_same work w) refl
  nothing_same backlog w (Advance n) = refl
  nothing_same backlog w (Close s) = refl
  nothing_same backlog w (Charge s n) = refl

  left_out : (b : Bool) (x : Step W) (xs : List (Step W)) → (if b then map (counted_step work) xs else counted_step work x ∷ map (counted_step work) xs)
      ≡ map (counted_step work) (if b then xs else x ∷ xs)
  left_out true x xs = refl
  left_out false x xs = refl

  effective_same : (setup : Setup) (xs : List (Step W)) → effective_steps counting setup (map (counted_step work) xs) ≡ map (counted_step work) (effective_steps work setup xs)
  effective_same setup [] = refl
  effective_same setup (x ∷ xs) =
      let world : after counting setup (map (counted_step work) xs) ≡ counted_world work (after work setup xs) = world_same work (record { setup = setup; steps = xs }) in
      rw (world, nothing_same setup.backlog (after work setup xs) x, effective_same setup xs)
      (left_out (does_nothing work setup.backlog (after work setup xs) x) x (effective_steps work setup xs))

  -- so is the unit that they end with
  beside_one : (s : ℕ) (x : Step W) → IsBeside s x → IsBeside s (counted_step work x)
  beside_one s (Submit t job) h = h
  beside_one s Run h = h
  beside_one s (Advance n) h = h
  beside_one s (Close t) h = h
  beside_one s (Charge t n) h = h

  beside_same : (s : ℕ) (xs : List (Step W)) → AllByRecursion (IsBeside s) xs → AllByRecursion (IsBeside s) (map (counted_step work) xs)
  beside_same s [] h = h
  beside_same s (x ∷ xs) h = (beside_one s x h.0, beside_same s xs h.1)

  unit_same : (N : History W) (s : ℕ) → EndsWithUnit work N s → EndsWithUnit counting (counted_history work N) s
  unit_same N s h = record {
    later = map (counted_step work) h.later;
    earlier = map (counted_step work) h.earlier;
    seq = h.seq;
    at = record {
      steps = ap (map (counted_step work)) h.at.steps ∙ map-append (counted_step work) h.later (Run ∷ h.earlier);
      unit = reply_same work (when N h.earlier) Run ∙ ap (counted_reply work) h.at.unit;
      beside = beside_same s h.later h.at.beside;
    };
  }

  ends_same : (M : History W) (s : ℕ) → EndsWithUnit work (effective work M) s → EndsWithUnit counting (effective counting (counted_history work M)) s
  ends_same M s h =
      subst (λ (xs : List (Step CountJob)). EndsWithUnit counting (record { setup = M.setup; steps = xs }) s) (sym (effective_same M.setup M.steps)) (unit_same (effective work M) s h)

  -- all that is held
  state_same : (core : CoreHeld W) (M : History W) → Agrees work core M → Agrees counting (counted_core work core) (counted_history work M)
  state_same core M h =
      let w : World W = world_after work M in
      let all : AgreesWorld counting (counted_core work core) M.setup.backlog (counted_world work w) = record {
        same_backlog = h.world.same_backlog;
        clock = h.world.clock;
        shown = h.world.shown ∙ sym (faces_same work w);
        jobs = all_jobs_same core.queues w.accounts h.world.jobs;
        runs = λ s. ap (λ (a : Account CountJob). a.runs) (account_same work w s) ∙ h.world.runs s;
        latest = λ s running. ap (λ (a : Account CountJob). a.latest) (account_same work w s) ∙ h.world.latest s running;
      } in
      record {
        world = subst (λ (v : World CountJob). AgreesWorld counting (counted_core work core) M.setup.backlog v) (sym (world_same work M)) all;
        unit = λ unfinished. ends_same M core.last.server (h.unit unfinished);
      }

  -- how many more jobs fit makes no difference
  rooms_differ : (core other : CoreHeld CountJob) (N : History CountJob) → other ≡ record core { rooms = other.rooms } → Agrees counting core N → Agrees counting other N
  rooms_differ core other N same h = subst (λ (c : CoreHeld CountJob). Agrees counting c N) (sym same) (record {
    world = record {
      same_backlog = h.world.same_backlog;
      clock = h.world.clock;
      shown = h.world.shown;
      jobs = h.world.jobs;
      runs = h.world.runs;
      latest = h.world.latest;
    };
    unit = h.unit;
  })

  pub as_it_was_from : AsItWasFrom work
  as_it_was_from M first last empty tape begun other agrees begins none records whole follows =
      let steps = has_steps work first last empty tape none records whole in
      let same : counted_history work M ⊕⊕ tape.steps ≡ counted_history work (M ⊕⊕ records.steps) =
      ap (λ (xs : List (Step CountJob)). counted_history work M ⊕⊕ xs) steps ∙ sym (counted_more work M records.steps) in
      let begins_so = rooms_differ (counted_core work first) begun (counted_history work M) begins (state_same first M agrees) in
      shows_after work (M ⊕⊕ records.steps) last (counted_history work M ⊕⊕ tape.steps) other same (records.follows M agrees) (follows (counted_history work M) begins_so)
