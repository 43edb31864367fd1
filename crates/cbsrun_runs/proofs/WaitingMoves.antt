-- What each move of a simulation does to a server that may wait.
use Rattle.std.proofs.Common.{◌≡◌, ℕ, zero, suc, ◌+◌, ◌-◌, ◌≤◌, ◌<◌, Bool, true, false, not, ◌&&◌, eqb, leb, ltb, List, [], ◌∷◌, length, map, get_or, arith}
use Rattle.std.proofs.Common.{refl, ap, sym, subst, ◌∙◌, inl, inr, ◌⊎◌, Option, Some, None}
use Rattle.std.specs.Prelude.{if◌then◌else◌, Result, Ok, Err}
use Rattle.std.proofs.Math.ListN.{get_or-map}
use Rattle.std.proofs.lemmas.Bool.{cases_Bool}
use Rattle.std.proofs.lemmas.Bool.Decides.{nat_tests}
use Rattle.std.proofs.lemmas.List.{length-map}
use Rattle.cbs_lists.specs.Lists.{changed_at}
use Rattle.cbs_lists.proofs.Lists.{length-changed_at, changed_here, changed_elsewhere}
use Rattle.cbs_job.specs.Work.{whole}
use Rattle.cbs_rules.specs.Rules.{clock_end}
use Rattle.cbsrun_simulate.specs.Loading.{loading, job_of}
use Rattle.cbsrun_simulate.specs.Shown.{arrival_of}
use Rattle.cbsrun_simulate.specs.declared.load_job.LoadJob.{LoadJob}
use Rattle.cbsrun_simulate.specs.declared.release.Release.{Release}
use Rattle.cbs_steps.specs.Accounts.{Account, need, finished, face_of, no_account, account_with_job, account_with_unit, account_with_charge}
use Rattle.cbs_steps.specs.Accounts.{account_with_replenishment, account_let_go}
use Rattle.cbs_steps.specs.Faces.{view_of, is_ready, with_replenishment}
use Rattle.cbs_steps.specs.History.{World, account, faces, chosen, ticks, let_go, after_submit, after_run, after_advance, after_charging, run_reply, unit_reply}
use Rattle.cbs_steps.specs.OnTime.{IsAhead}
use Rattle.cbs_steps.specs.declared.error.CoreError.{CoreError}
use Rattle.cbs_steps.specs.declared.reply.Ran.TheVariants as ran
use Rattle.cbs_steps.proofs.Demands.{replenished_ahead}
use Rattle.cbs_steps.proofs.Histories.{chosen_is_ready}
use Rattle.cbs_steps.proofs.OnTimeSteps.{ahead_arrived}
use Rattle.cbs_steps.proofs.Running.{replenished_account, advance_jumps, charge_jumps}
use Rattle.cbs_steps.proofs.Ticks.{jumped, ticks_none}
use Rattle.cbsrun_figures.specs.Figures.{is_server}
use Rattle.cbsrun_events.specs.Events.{server_of, server_of_unit, ticks_of, ticks_of_run, begun}
use Rattle.cbsrun_events.specs.Steps.{submit_seen, view_at, view_seen, seen_at}
use Rattle.cbsrun_events.specs.declared.seen.Event.{Event}
use Rattle.cbsrun_events.specs.declared.seen.Event.TheVariants as event
use Rattle.cbsrun_events.specs.declared.seen.Seen.{Seen}
use Rattle.cbsrun_runs.specs.Loads.{is_waiting, shows}
use Rattle.cbsrun_runs.proofs.Waits.{passed, ready_waits_not}

module _ (s : ℕ) where
  -- a step of server s. It began at this clock, and shows the view of the server. In none of its ticks the server
  -- waited
  pub record IsOwn (w v : World LoadJob) (o : Seen) (charges : Bool) : Type 0 where
    pub own : is_server s (server_of o.event) ≡ true
    pub begun : begun o ≡ w.now
    pub view : o.view ≡ Some (view_of (shows v s))
    pub none : (t : ℕ) → w.now ≤ t → t < v.now → (not charges && is_waiting (shows (ticks (t - w.now) w) s)) ≡ false

  -- a step of no server, or of another one: for server s, this many ticks passed
  pub record IsOther (n : ℕ) (w v : World LoadJob) (o : Seen) (charges : Bool) : Type 0 where
    pub other : is_server s (server_of o.event) ≡ false
    pub charge : charges ≡ false
    pub shown : shows v s ≡ passed w.now n (shows w s)

  -- what a step of this many ticks leaves
  pub record Leaves (w v : World LoadJob) (o : Seen) (charges : Bool) : Type 0 where
    pub ticks : ℕ
    pub clock : v.now ≡ w.now + ticks
    pub ahead : IsAhead v.now (shows v s)
    pub sort : IsOwn w v o charges ⊎ IsOther ticks w v o charges

  -- a view sees the step so
  abbrev pub seen_as : Event → World LoadJob → Seen
  seen_as e v = seen_at v.now (faces loading v) e

  -- the view of a server that exists
  view_there : (accounts : List (Account LoadJob)) (i : ℕ) → i < length accounts
      → view_at (map (face_of loading) accounts) (Some i) ≡ Some (view_of (face_of loading (account accounts i)))
  view_there [] i lt = absurd (omega arith)
  view_there (a ∷ accounts) zero lt = refl
  view_there (a ∷ accounts) (suc i) lt = view_there accounts i (omega arith)

  -- the view of the server of a step, if that is server s
  view_own : (v : World LoadJob) (t : ℕ) (e : Event) → server_of e ≡ Some t → eqb t s ≡ true → s < length v.accounts
      → view_seen (faces loading v) e ≡ Some (view_of (shows v s))
  view_own v t e of same lt =
      let is : t ≡ s = grind (arith, nat_tests) in
      rw (of, is) (view_there v.accounts s lt)

  -- the view after a jump
  pub shown_jump : (n : ℕ) (u : World LoadJob) → shows (jumped n u) s ≡ with_replenishment (u.now + n) (shows u s)
  shown_jump n u = ap (face_of loading) (replenished_account (u.now + n) u.accounts s)

  ahead_jump : (n : ℕ) (u : World LoadJob) → IsAhead (u.now + n) (shows (jumped n u) s)
  ahead_jump n u = subst (λ f. IsAhead (u.now + n) f) (sym (shown_jump n u)) (replenished_ahead (shows u s).terms.reservation (u.now + n) (shows u s).state)

  -- letting go the server that ran changes no view
  shown_loose : (w : World LoadJob) → shows (let_go w) s ≡ shows w s
  shown_loose w = ap (face_of loading) (get_or-map account_let_go w.accounts s no_account)

  -- a change of another server does not change server s
  shown_changed : (f : Account LoadJob → Account LoadJob) (w : World LoadJob) (t : ℕ) → eqb t s ≡ false
      → shows (record w { accounts = changed_at f w.accounts t }) s ≡ shows w s
  shown_changed f w t other =
      ap (face_of loading) (changed_elsewhere f w.accounts t s no_account (λ e. let g : s ≡ t = e in grind (arith, nat_tests)))

  -- nothing changes
  still : (w : World LoadJob) (e : Event) → is_server s (server_of e) ≡ false → IsAhead w.now (shows w s) → Leaves w w (seen_as e w) false
  still w e other ahead = record { ticks = 0; clock = omega arith; ahead = ahead; sort = inr (record { other = other; charge = refl; shown = refl }) }

  -- the view after a jump from a world with the same clock and the same view
  later : (w u : World LoadJob) (n : ℕ) → u.now ≡ w.now → shows u s ≡ shows w s → shows (jumped (suc n) u) s ≡ passed w.now (suc n) (shows w s)
  later w u n now shown =
      shown_jump (suc n) u ∙ (ap (λ c. with_replenishment (c + suc n) (shows u s)) now ∙ ap (with_replenishment (w.now + suc n)) shown)

  -- a jump
  jump_other : (w u : World LoadJob) (n : ℕ) (e : Event) → u.now ≡ w.now → shows u s ≡ shows w s → is_server s (server_of e) ≡ false
      → Leaves w (jumped (suc n) u) (seen_as e (jumped (suc n) u)) false
  jump_other w u n e now shown other = record {
    ticks = suc n;
    clock = omega arith;
    ahead = ahead_jump (suc n) u;
    sort = inr (record { other = other; charge = refl; shown = later w u n now shown });
  }

  -- a unit of server t
  pub of_unit : (t : ℕ) (a : Account LoadJob) → (server_of_unit (unit_reply loading a t) ≡ Some t) × (ticks_of_run (unit_reply loading a t) ≡ 1)
  of_unit t a =
      let k = finished loading a in
      of_either (eqb (need loading a (k + 1)) (a.got + 1)) t k (get_or (map (whole loading) a.accepted) k 0)
    where
      of_either : (b : Bool) (t k n : ℕ)
          → (let r = if b then ran.Done (record { server = t; seq = k; result = n }) else ran.Unit t k in (server_of_unit r ≡ Some t) × (ticks_of_run r ≡ 1))
      of_either true t k n = (refl, refl)
      of_either false t k n = (refl, refl)

  run_unit : (w : World LoadJob) (t : ℕ) → chosen loading w ≡ Some t → s < length w.accounts
      → (let v = after_run w (Some t) in Leaves w v (seen_as (event.Ran (unit_reply loading (account w.accounts t) t)) v) false)
  run_unit w t e lt =
      let of = of_unit t (account w.accounts t) in
      let ev = event.Ran (unit_reply loading (account w.accounts t) t) in
      let u : World LoadJob = record w { accounts = changed_at account_with_unit (let_go w).accounts t } in
      let v = jumped 1 u in
      elim (cases_Bool (eqb t s)) [
        | inl same ↦
            let is : t ≡ s = grind (arith, nat_tests) in
            let ready : is_ready (shows w s) ≡ true = rw is at (chosen_is_ready loading w t e) in
            let there : s < length v.accounts = omega (
              arith,
              length-map u.accounts (account_with_replenishment {W = LoadJob} (w.now + 1)),
              length-changed_at (account_with_unit {W = LoadJob}) (let_go w).accounts t,
              length-map w.accounts (account_let_go {W = LoadJob}),
            ) in
            record {
              ticks = 1;
              clock = refl;
              ahead = ahead_jump 1 u;
              sort = inl (record {
                own = ap (is_server s) of.0 ∙ same;
                begun = ap (λ k. w.now + 1 - k) of.1 ∙ omega arith;
                view = view_own v t ev of.0 same there;
                none = λ at from to. let z : at - w.now ≡ 0 = omega arith in rw (z, ticks_none w) (ready_waits_not (shows w s) ready);
              });
            }
        | inr f ↦ jump_other w u 0 ev refl (shown_changed account_with_unit (let_go w) t f ∙ shown_loose w) (ap (is_server s) of.0 ∙ f)
      ]

  pub run_leaves : (w : World LoadJob) (o : Option ℕ) → chosen loading w ≡ o → s < length w.accounts → IsAhead w.now (shows w s)
      → (let v = after_run w (if ltb w.now clock_end then o else None) in Leaves w v (seen_as (event.Ran (run_reply loading w o)) v) false)
  run_leaves w None e lt ahead = elim (cases_Bool (ltb w.now clock_end)) [
    | inl y ↦ rw y (still w (event.Ran ran.Idle) refl ahead)
    | inr n ↦ rw n (still w (event.Ran ran.Idle) refl ahead)
  ]
  run_leaves w (Some t) e lt ahead = elim (cases_Bool (ltb w.now clock_end)) [
    | inl y ↦ let f : leb clock_end w.now ≡ false = grind (arith, nat_tests) in rw (y, f) (run_unit w t e lt)
    | inr n ↦ let f : leb clock_end w.now ≡ true = grind (arith, nat_tests) in rw (n, f) (still w (event.Ran ran.ClockEnd) refl ahead)
  ]

  pub pass_leaves : (w : World LoadJob) (n : ℕ) (b : Bool) → IsAhead w.now (shows w s)
      → (let v = if b then after_advance w n else w in Leaves w v (seen_as (event.Advanced n) v) false)
  pass_leaves w n false ahead = still w (event.Advanced n) refl ahead
  pass_leaves w zero true ahead = still w (event.Advanced 0) refl ahead
  pass_leaves w (suc n) true ahead = rw (advance_jumps w (suc n) (omega arith))
      (jump_other w (let_go w) n (event.Advanced (suc n)) refl (shown_loose w) refl)

  pub charge_leaves : (w : World LoadJob) (t n : ℕ) → s < length w.accounts → IsAhead w.now (shows w s)
      → (let v = after_charging w t n None in Leaves w v (seen_as (event.Charged t n) v) (eqb t s))
  charge_leaves w t zero lt ahead = elim (cases_Bool (eqb t s)) [
    | inl same ↦ record {
      ticks = 0;
      clock = omega arith;
      ahead = ahead;
      sort = inl (record { own = same; begun = omega arith; view = view_own w t (event.Charged t 0) refl same lt; none = λ at from to. absurd (omega arith) });
    }
    | inr f ↦ record { ticks = 0; clock = omega arith; ahead = ahead; sort = inr (record { other = f; charge = f; shown = refl }) }
  ]
  charge_leaves w t (suc n) lt ahead =
      let u : World LoadJob = record w { accounts = changed_at (account_with_charge (suc n)) w.accounts t } in
      let v = jumped (suc n) u in
      let goal : Leaves w v (seen_as (event.Charged t (suc n)) v) (eqb t s) = elim (cases_Bool (eqb t s)) [
        | inl same ↦
            let there : s < length v.accounts = omega (
              arith,
              length-map u.accounts (account_with_replenishment {W = LoadJob} (w.now + suc n)),
              length-changed_at (account_with_charge {W = LoadJob} (suc n)) w.accounts t,
            ) in
            record {
              ticks = suc n;
              clock = refl;
              ahead = ahead_jump (suc n) u;
              sort = inl (record {
                own = same;
                begun = omega arith;
                view = view_own v t (event.Charged t (suc n)) refl same there;
                none = λ at from to. rw same refl;
              });
            }
        | inr f ↦ record {
          ticks = suc n;
          clock = refl;
          ahead = ahead_jump (suc n) u;
          sort = inr (record { other = f; charge = f; shown = later w u n refl (shown_changed (account_with_charge (suc n)) w t f) });
        }
      ] in
      rw (charge_jumps w t (suc n) (omega arith)) goal

  -- a submit is a step of its server, and takes no tick
  pub of_submit : (r : Release) (a : Result ℕ CoreError) (p : Option ℕ)
      → (let e = submit_seen (arrival_of r) a p in (server_of e ≡ Some r.server) × (ticks_of e ≡ 0))
  of_submit r (Ok q) p = (refl, refl)
  of_submit r (Err e) p = (refl, refl)

  -- what a step of a server leaves, if it takes no tick
  at_once : (w v : World LoadJob) (t : ℕ) (e : Event) → v.now ≡ w.now → server_of e ≡ Some t → ticks_of e ≡ 0 → s < length v.accounts
      → IsAhead v.now (shows v s)
      → (eqb t s ≡ false → shows v s ≡ shows w s) → Leaves w v (seen_as e v) false
  at_once w v t e now of takes there ahead same = elim (cases_Bool (eqb t s)) [
    | inl own ↦ record {
      ticks = 0;
      clock = omega arith;
      ahead = ahead;
      sort = inl (record {
        own = ap (is_server s) of ∙ own;
        begun = ap (λ k. v.now - k) takes ∙ omega arith;
        view = view_own v t e of own there;
        none = λ at from to. absurd (omega arith);
      });
    }
    | inr f ↦ record {
      ticks = 0;
      clock = omega arith;
      ahead = ahead;
      sort = inr (record { other = ap (is_server s) of ∙ f; charge = refl; shown = same f });
    }
  ]

  -- a job that comes leaves a server ahead
  ahead_with_job : (w : World LoadJob) (t : ℕ) (j : LoadJob) → s < length w.accounts → IsAhead w.now (shows w s)
      → IsAhead w.now (shows (record w { accounts = changed_at (account_with_job loading w.now j) w.accounts t }) s)
  ahead_with_job w t j lt ahead = elim (cases_Bool (eqb t s)) [
    | inl own ↦
        let is : t ≡ s = grind (arith, nat_tests) in
        let here : shows (record w { accounts = changed_at (account_with_job loading w.now j) w.accounts s }) s
        ≡ face_of loading (account_with_job loading w.now j (account w.accounts s)) =
        ap (face_of loading) (changed_here (account_with_job loading w.now j) w.accounts s no_account lt) in
        rw is (subst (λ f. IsAhead w.now f) (sym here) (ahead_arrived w.now (shows w s) ahead))
    | inr f ↦ subst (λ g. IsAhead w.now g) (sym (shown_changed (account_with_job loading w.now j) w t f)) ahead
  ]

  pub submit_leaves : (w : World LoadJob) (r : Release) (a : Result ℕ CoreError) (p : Option ℕ) (o : Option CoreError)
      → s < length w.accounts → IsAhead w.now (shows w s)
      → (let v = after_submit loading w r.server (job_of r) o in Leaves w v (seen_as (submit_seen (arrival_of r) a p) v) false)
  submit_leaves w r a p (Some e) lt ahead =
      let of = of_submit r a p in
      at_once w w r.server (submit_seen (arrival_of r) a p) refl of.0 of.1 lt ahead (λ f. refl)
  submit_leaves w r a p None lt ahead =
      let of = of_submit r a p in
      let v : World LoadJob = record w { accounts = changed_at (account_with_job loading w.now (job_of r)) w.accounts r.server } in
      let there : s < length v.accounts = omega (arith, length-changed_at (account_with_job loading w.now (job_of r)) w.accounts r.server) in
      at_once w v r.server (submit_seen (arrival_of r) a p) refl of.0 of.1 there (ahead_with_job w r.server (job_of r) lt ahead)
      (shown_changed (account_with_job loading w.now (job_of r)) w r.server)
