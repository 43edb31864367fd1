-- What the moves of a simulation do to one server.
use Rattle.std.proofs.Common.{◌≡◌, ◌≢◌, ℕ, zero, suc, ◌+◌, ◌≤◌, ◌<◌, Bool, true, eqb, leb, ltb, List, [], ◌∷◌, ◌++◌, length, map, get_or, arith, refl}
use Rattle.std.proofs.Common.{sym, ap, ◌∙◌, inl, inr, Option, Some, None}
use Rattle.std.proofs.Math.ListN.{get_or-map}
use Rattle.std.proofs.lemmas.Bool.{cases_Bool, cases_lt}
use Rattle.std.proofs.lemmas.Bool.Decides.{nat_tests}
use Rattle.std.proofs.lemmas.List.{length-map}
use Rattle.cbs_lists.specs.Lists.{changed_at}
use Rattle.cbs_lists.proofs.Lists.{changed_elsewhere, changed_kept, map_kept}
use Rattle.cbs_rules.specs.Rules.{clock_end}
use Rattle.cbs_steps.specs.Accounts.{Account, need, finished, face_of, new_account, no_account, account_with_job, account_with_unit, account_with_charge, account_with_replenishment, account_let_go}
use Rattle.cbs_steps.specs.Faces.{submit_refusal}
use Rattle.cbs_steps.specs.History.{World, Setup, account, faces, chosen, let_go, runner, run_reply, unit_reply, after, after_submit, after_run, after_advance}
use Rattle.cbs_steps.specs.History.{after_charging, charge_refusal, next}
use Rattle.cbs_steps.specs.declared.error.CoreError.{CoreError}
use Rattle.cbs_steps.specs.declared.reply.Ran.TheVariants as ran
use Rattle.cbs_steps.specs.declared.step.Step.{Step}
use Rattle.cbs_steps.specs.declared.step.Step.TheVariants.{Submit, Run, Advance, Charge}
use Rattle.cbs_steps.proofs.Histories.{chosen_is_ready}
use Rattle.cbs_steps.proofs.OnTime.{reservation, rates_after}
use Rattle.cbs_steps.proofs.Running.{advance_jumps, charge_jumps}
use Rattle.cbs_guarantee.specs.Streams.{jobs_of}
use Rattle.cbs_guarantee.proofs.Steps.{no_jobs, jobs_given, charge_counts, by_step}
use Rattle.cbsrun_simulate.specs.Loading.{loading}
use Rattle.cbsrun_simulate.specs.declared.load_job.LoadJob.{LoadJob}
use Rattle.cbsrun_simulate.proofs.Clocks.{charge-now}

-- there are as many accounts as servers
pub count_of : (setup : Setup) (M : List (Step LoadJob)) → length (after loading setup M).accounts ≡ length setup.servers
count_of setup M = omega (
  arith,
  ap length (rates_after loading setup M),
  length-map (after loading setup M).accounts (reservation loading),
  length-map (map new_account setup.servers) (reservation loading),
  length-map setup.servers (new_account {W = LoadJob}),
)

-- a part of each account that replenishments and letting go keep
module _ {X : Type 0} (g : Account LoadJob → X) (fill : (now : ℕ) (a : Account LoadJob) → g (account_with_replenishment now a) ≡ g a)
    (loose : (a : Account LoadJob) → g (account_let_go a) ≡ g a) where
  same_at : (xs ys : List (Account LoadJob)) (s : ℕ) → map g ys ≡ map g xs → g (account ys s) ≡ g (account xs s)
  same_at xs ys s e = sym (get_or-map g ys s no_account) ∙ ap (λ l. get_or l s (g no_account)) e ∙ get_or-map g xs s no_account

  after_advance_same : (w : World LoadJob) (n : ℕ) → map g (after_advance w n).accounts ≡ map g w.accounts
  after_advance_same w zero = refl
  after_advance_same w (suc n) = rw (advance_jumps w (suc n) (omega arith))
      (map_kept g (account_with_replenishment (w.now + suc n)) (let_go w).accounts (fill (w.now + suc n)) ∙ map_kept g account_let_go w.accounts loose)

  -- an advance keeps it
  pub advance_same : (backlog : ℕ) (w : World LoadJob) (n s : ℕ) → g (account (next loading backlog w (Advance n)).accounts s) ≡ g (account w.accounts s)
  advance_same backlog w n s = elim (cases_Bool (leb (w.now + n) clock_end)) [
    | inl t ↦ rw t (same_at w.accounts (after_advance w n).accounts s (after_advance_same w n))
    | inr f ↦ rw f refl
  ]

  module _ (unit : (a : Account LoadJob) → g (account_with_unit a) ≡ g a) where
    after_run_same : (w : World LoadJob) (o : Option ℕ) → map g (after_run w o).accounts ≡ map g w.accounts
    after_run_same w None = refl
    after_run_same w (Some t) = map_kept g (account_with_replenishment (w.now + 1)) (changed_at account_with_unit (let_go w).accounts t) (fill (w.now + 1))
        ∙ changed_kept g account_with_unit (let_go w).accounts t unit ∙ map_kept g account_let_go w.accounts loose

    -- so does a run, if a unit does
    pub run_same : (backlog : ℕ) (w : World LoadJob) (s : ℕ) → g (account (next loading backlog w Run).accounts s) ≡ g (account w.accounts s)
    run_same backlog w s = same_at w.accounts (next loading backlog w Run).accounts s (after_run_same w (runner loading w))

  module _ (charged : (n : ℕ) (a : Account LoadJob) → g (account_with_charge n a) ≡ g a) where
    after_charging_same : (w : World LoadJob) (t n : ℕ) (o : Option CoreError) → map g (after_charging w t n o).accounts ≡ map g w.accounts
    after_charging_same w t zero None = refl
    after_charging_same w t zero (Some e) = refl
    after_charging_same w t (suc n) (Some e) = refl
    after_charging_same w t (suc n) None = rw (charge_jumps w t (suc n) (omega arith))
        (map_kept g (account_with_replenishment (w.now + suc n)) (changed_at (account_with_charge (suc n)) w.accounts t) (fill (w.now + suc n))
        ∙ changed_kept g (account_with_charge (suc n)) w.accounts t (charged (suc n)))

    -- and a charge
    pub charge_same : (backlog : ℕ) (w : World LoadJob) (t n s : ℕ) → g (account (next loading backlog w (Charge t n)).accounts s) ≡ g (account w.accounts s)
    charge_same backlog w t n s =
        same_at w.accounts (next loading backlog w (Charge t n)).accounts s (after_charging_same w t n (charge_refusal w t n))

-- whether a server is closed, and how many jobs it has accepted
abbrev pub shut : Account LoadJob → Bool
shut a = a.closed

abbrev pub count : Account LoadJob → ℕ
count a = length a.accepted

module _ (w : World LoadJob) (s : ℕ) where
  -- a submit closes no server
  pub submit_shut : (t : ℕ) (j : LoadJob) (o : Option CoreError) → (account (after_submit loading w t j o).accounts s).closed ≡ (account w.accounts s).closed
  submit_shut t j None = same_at shut (λ now a. refl) (λ a. refl) w.accounts (after_submit loading w t j None).accounts s
      (changed_kept shut (account_with_job loading w.now j) w.accounts t (λ a. refl))
  submit_shut t j (Some e) = refl

  -- a submit to another server leaves the account
  pub submit_elsewhere : (t : ℕ) (j : LoadJob) (o : Option CoreError) → t ≢ s → account (after_submit loading w t j o).accounts s ≡ account w.accounts s
  submit_elsewhere t j None ne = changed_elsewhere (account_with_job loading w.now j) w.accounts t s no_account (λ e. ne (sym e))
  submit_elsewhere t j (Some e) ne = refl

-- a charge moves the clock on by no more than its ticks
pub charge_most : (backlog : ℕ) (w : World LoadJob) (t n : ℕ) → charge_refusal w t n ≡ None → (next loading backlog w (Charge t n)).now ≤ w.now + n
charge_most backlog w t zero granted = rw granted (omega arith)
charge_most backlog w t (suc n) granted = let e = charge-now loading backlog w t (suc n) (omega arith) granted in omega arith

-- job q of server s: the steps up to its submit, and those since
pub record Found (setup : Setup) (s q : ℕ) (L : List (Step LoadJob)) : Type 0 where
  pub since : List (Step LoadJob)
  pub before : List (Step LoadJob)
  pub job : LoadJob
  pub steps : L ≡ since ++ Submit s job ∷ before
  pub accepted : submit_refusal setup.backlog (faces loading (after loading setup before)) s ≡ None
  pub number : jobs_of loading setup s before ≡ q

module _ (setup : Setup) (s : ℕ) where
  found_more : (q : ℕ) (x : Step LoadJob) (M : List (Step LoadJob)) → Found setup s q M → Found setup s q (x ∷ M)
  found_more q x M f = record {
    since = x ∷ f.since;
    before = f.before;
    job = f.job;
    steps = ap (λ L. x ∷ L) f.steps;
    accepted = f.accepted;
    number = f.number;
  }

  -- each accepted job was submitted
  pub found : (L : List (Step LoadJob)) (q : ℕ) → q < jobs_of loading setup s L → Found setup s q L
  found [] q lt = let z = no_jobs loading setup s in absurd (omega arith)
  found (x ∷ M) q lt = by_step loading setup s (λ L. q < jobs_of loading setup s L → Found setup s q L) x M
      (λ job accepted lt. let more = jobs_given loading setup s M job accepted in
      elim (cases_lt q (jobs_of loading setup s M)) [
        | inl below ↦ found_more q (Submit s job) M (found M q below)
        | inr ge ↦ record { since = []; before = M; job = job; steps = refl; accepted = accepted; number = omega arith }
      ])
      (λ n charged lt. let same = (charge_counts loading setup s M n charged).0 in found_more q (Charge s n) M (found M q (omega arith)))
      (λ other moves lt. let same = other.jobs in found_more q x M (found M q (omega arith))) lt

-- a unit that finishes a job is of the chosen server, and of its first unfinished job
pub done_is : (w : World LoadJob) (o : Option ℕ) (c : _) → run_reply loading w o ≡ ran.Done c
    → (o ≡ Some c.server) × (c.seq ≡ finished loading (account w.accounts c.server))
done_is w None c e = cc
done_is w (Some t) c e = elim (cases_Bool (leb clock_end w.now)) [
  | inl y ↦ let g : ran.ClockEnd ≡ ran.Done c = rw y at e in cc
  | inr f ↦
      let a = account w.accounts t in
      let unit : unit_reply loading a t ≡ ran.Done c = rw f at e in
      elim (cases_Bool (eqb (need loading a (finished loading a + 1)) (a.got + 1))) [
        | inl y ↦
            let g : ran.Done (record { server = t; seq = finished loading a; result = _ }) ≡ ran.Done c = rw y at unit in
            let server : t ≡ c.server = cc in
            let seq : finished loading a ≡ c.seq = cc in
            (ap Some server, rw (← server) (sym seq))
        | inr n ↦ let g : ran.Unit t (finished loading a) ≡ ran.Done c = rw n at unit in cc
      ]
]

-- the chosen server has an unfinished job
pub chosen_owes : (w : World LoadJob) (t : ℕ) → chosen loading w ≡ Some t → finished loading (account w.accounts t) < length (account w.accounts t).accepted
chosen_owes w t e =
    let a = account w.accounts t in
    let ready = chosen_is_ready loading w t e in
    let f = face_of loading a in
    let active : ltb f.finished f.accepted ≡ true = grind (arith, nat_tests) in
    grind (arith, nat_tests)

-- so a job that is finished was accepted
pub done_there : (w : World LoadJob) (c : _) → run_reply loading w (chosen loading w) ≡ ran.Done c → c.seq < length (account w.accounts c.server).accepted
done_there w c e =
    let is = done_is w (chosen loading w) c e in
    let owes = chosen_owes w c.server is.0 in
    let seq = is.1 in
    omega arith
