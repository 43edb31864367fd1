-- Each server of a simulation is charged for one unit at most what its jobs may overrun.
use Rattle.std.proofs.Common.{false, sym, ◌∙◌, ◌≡◌, ℕ, zero, suc, ◌+◌, ◌-◌, ◌≤◌, ◌<◌, true, ltb, leb, List, [], ◌∷◌, ◌++◌, map, get_or, arith, refl, ap, subst}
use Rattle.std.proofs.Common.{inl, inr, Option, Some, None, ◌∙◌}
use Rattle.std.specs.Prelude.{drop, min, if◌then◌else◌}
use Rattle.std.specs.List.{AllByRecursion}
use Rattle.std.proofs.lemmas.Bool.{cases_Bool}
use Rattle.std.proofs.lemmas.Bool.Decides.{nat_tests}
use Rattle.cbs_lists.specs.Lists.{changed_at}
use Rattle.cbs_rules.specs.Rules.{Terms, clock_end}
use Rattle.cbs_steps.specs.Accounts.{Account, new_account, account_with_job, account_with_unit, account_with_charge}
use Rattle.cbs_steps.specs.Faces.{submit_refusal}
use Rattle.cbs_steps.specs.History.{World, account, faces, chosen, let_go, run_reply, after_submit, after_run, after_charging, charge_refusal, charge_reply}
use Rattle.cbs_steps.specs.History.{after, unit_reply, next, world_after, reply_in}
use Rattle.cbs_steps.specs.declared.error.CoreError.{CoreError}
use Rattle.cbs_steps.specs.declared.reply.Ran.{Ran}
use Rattle.cbs_steps.specs.declared.reply.Ran.TheVariants as ran
use Rattle.cbs_steps.specs.declared.reply.Reply.TheVariants as reply
use Rattle.cbs_steps.specs.declared.step.Step.TheVariants.{Run, Advance, Charge}
use Rattle.cbs_steps.proofs.Histories.{holds_ticks, holds_run_step, holds_advance_step}
use Rattle.cbs_steps.proofs.Running.{replenished_account, loose_account, latest_changed}
use Rattle.cbsrun_simulate.specs.Loading.{loading, job_of}
use Rattle.cbsrun_simulate.specs.Moves.{Move, submit, run, pass, charge, owing_of, owing_for, overrun_in, ran_in, Simulation, clock_of, after_move}
use Rattle.cbsrun_simulate.specs.MoveLaws.{owed_before, ChargesOwed}
use Rattle.cbsrun_simulate.specs.Releases.{before}
use Rattle.cbsrun_simulate.specs.declared.release.Release.{Release}
use Rattle.cbs_steps.specs.declared.step.Step.{Step}
use Rattle.cbsrun_simulate.proofs.Clocks.{submit-now}
use Rattle.cbsrun_simulate.proofs.Owing.{owing_is, unit_owes}
use Rattle.cbsrun_simulate.proofs.MoveSteps.{MovesWell}
use Rattle.cbsrun_simulate.specs.declared.charge.Charge.{Charge as Owed}
use Rattle.cbsrun_simulate.specs.declared.load_job.LoadJob.{LoadJob}

-- what holds of each account, by its server's number, if a change of one keeps it
pub changed_each : (P : ℕ → Account LoadJob → Type 0) (f : Account LoadJob → Account LoadJob) (xs : List (Account LoadJob)) (t s : ℕ)
    → (P t (account xs t) → P t (f (account xs t))) → ((i : ℕ) → P i (account xs i)) → P s (account (changed_at f xs t) s)
changed_each P f [] t s keeps each = each s
changed_each P f (a ∷ xs) zero zero keeps each = keeps (each 0)
changed_each P f (a ∷ xs) zero (suc s) keeps each = each (suc s)
changed_each P f (a ∷ xs) (suc t) zero keeps each = each 0
changed_each P f (a ∷ xs) (suc t) (suc s) keeps each = changed_each (λ i. P (suc i)) f xs t s keeps (λ i. each (suc i))

-- a charge that is granted is not refused
pub granted_none : (o : Option CoreError) → charge_reply {W = LoadJob} o ≡ reply.Charged → o ≡ None
granted_none None e = refl
granted_none (Some x) e = cc

module _ (b : ℕ → ℕ) where
  -- no job of server s overruns by more than `b s`, and s was charged no more for one unit; nothing at all if `b s` is 0
  abbrev pub IsWithin : ℕ → Account LoadJob → Type 0
  IsWithin s a = ((q : ℕ) → get_or (map loading.output a.accepted) q 0 ≤ b s) × (a.charges.most ≤ b s) × (b s ≡ 0 → a.charges.total ≡ 0)

  -- this holds of each server
  abbrev pub AreWithin : World LoadJob → Type 0
  AreWithin w = (s : ℕ) → IsWithin s (account w.accounts s)

  -- one more job
  one_within : (s : ℕ) (js : List LoadJob) (j : LoadJob) (q : ℕ) → loading.output j ≤ b s → ((q : ℕ) → get_or (map loading.output js) q 0 ≤ b s)
      → get_or (map loading.output (js ++ j ∷ [])) q 0 ≤ b s
  one_within s [] j zero le all = le
  one_within s [] j (suc q) le all = omega arith
  one_within s (x ∷ js) j zero le all = all 0
  one_within s (x ∷ js) j (suc q) le all = one_within s js j q le (λ q. all (suc q))

  pub within_start : (ts : List Terms) (s : ℕ) → IsWithin s (account (map new_account ts) s)
  within_start ts s = go ts s (b s)
    where
      go : (ts : List Terms) (s n : ℕ) → (let a : Account LoadJob = account (map new_account ts) s in
          ((q : ℕ) → get_or (map loading.output a.accepted) q 0 ≤ n) × (a.charges.most ≤ n) × (n ≡ 0 → a.charges.total ≡ 0))
      go [] s n = (λ q. omega arith, omega arith, λ z. refl)
      go (t ∷ ts) zero n = (λ q. omega arith, omega arith, λ z. refl)
      go (t ∷ ts) (suc s) n = go ts s n

  pub within_submit : (w : World LoadJob) (t : ℕ) (j : LoadJob) (o : Option CoreError) → loading.output j ≤ b t → AreWithin w → AreWithin (after_submit loading w t j o)
  within_submit w t j None le h = λ s. changed_each IsWithin (account_with_job loading w.now j) w.accounts t s
      (λ k. (λ q. one_within t (account w.accounts t).accepted j q le k.0, k.1, k.2)) h
  within_submit w t j (Some e) le h = h

  pub within_run : (backlog : ℕ) (w : World LoadJob) → AreWithin w → AreWithin (next loading backlog w Run)
  within_run backlog w h = λ s. holds_run_step loading (λ now. IsWithin s) (λ now a ready k. k) (λ now a k. k) (λ now a k. k) (λ now a k. k) backlog w s (h s)

  pub within_advance : (backlog : ℕ) (w : World LoadJob) (n : ℕ) → AreWithin w → AreWithin (next loading backlog w (Advance n))
  within_advance backlog w n h = λ s. holds_advance_step loading (λ now. IsWithin s) (λ now a ready k. k) (λ now a k. k) (λ now a k. k) (λ now a k. k) backlog w n s (h s)

  -- a charge of a server that was charged nothing yet for its last unit
  within_charging : (w : World LoadJob) (t n : ℕ) (o : Option CoreError) → n ≤ b t → (account w.accounts t).latest ≡ 0 → AreWithin w
      → AreWithin (after_charging w t n o)
  within_charging w t zero None le fresh h = h
  within_charging w t zero (Some e) le fresh h = h
  within_charging w t (suc n) (Some e) le fresh h = h
  within_charging w t (suc n) None le fresh h = λ s.
      let f = account_with_charge {W = LoadJob} (suc n) in
      holds_ticks loading (λ now. IsWithin s) (λ now a ready k. k) (λ now a k. k) (λ now a k. k) (λ now a k. k) (suc n)
      (record w { accounts = changed_at f w.accounts t }) s
      (changed_each IsWithin f w.accounts t s (λ k. let most = k.1 in (k.0, omega arith, λ z. absurd (omega arith))) h)

  pub within_charge : (backlog : ℕ) (w : World LoadJob) (t n : ℕ) → n ≤ b t → (account w.accounts t).latest ≡ 0 → AreWithin w
      → AreWithin (next loading backlog w (Charge t n))
  within_charge backlog w t n le fresh h = within_charging w t n (charge_refusal w t n) le fresh h

  -- a charge that is owed for a unit is within the bound
  owing_within : (s n : ℕ) (c : Owed) → owing_of s n ≡ Some c → n ≤ b s → c.ticks ≤ b c.server
  owing_within s zero c e le = cc
  owing_within s (suc n) c e le =
      let d : Owed = record { server = s; ticks = suc n } in
      let same : d ≡ c = cc in
      subst (λ (x : Owed). x.ticks ≤ b x.server) same le

  pub owed_within : (w : World LoadJob) (r : Ran) (c : Owed) → AreWithin w → owing_for loading w r ≡ Some c → c.ticks ≤ b c.server
  owed_within w ran.Idle c h e = cc
  owed_within w ran.ClockEnd c h e = cc
  owed_within w (ran.Unit s q) c h e = owing_within s (overrun_in loading w s q) c e ((h s).0 q)
  owed_within w (ran.Done d) c h e = owing_within d.server (overrun_in loading w d.server d.seq) c e ((h d.server).0 d.seq)

-- the server that runs after a unit was charged nothing yet for it
fresh_unit : (w : World LoadJob) (t u : ℕ) → (account (after_run w (Some t)).accounts u).runs ≡ true → (account (after_run w (Some t)).accounts u).latest ≡ 0
fresh_unit w t u =
    let xs = changed_at account_with_unit (let_go w).accounts t in
    let each : (i : ℕ) → (account (let_go w).accounts i).runs ≡ true → (account (let_go w).accounts i).latest ≡ 0 =
    λ i runs. let loose = ap (λ (a : Account LoadJob). a.runs) (loose_account w.accounts i) in cc in
    let after : (account xs u).runs ≡ true → (account xs u).latest ≡ 0 =
    changed_each (λ i a. a.runs ≡ true → a.latest ≡ 0) account_with_unit (let_go w).accounts t u (λ k runs. refl) each in
    let e = replenished_account (w.now + 1) xs u in
    rw e after

-- so is the server that is to be charged after a run
pub fresh_run : (w : World LoadJob) (o : Option ℕ) (c : Owed) → w.now < clock_end → owing_for loading w (run_reply loading w o) ≡ Some c
    → (let v = after_run w (if ltb w.now clock_end then o else None) in
    (account v.accounts c.server).runs ≡ true → (account v.accounts c.server).latest ≡ 0)
fresh_run w None c early e = cc
fresh_run w (Some t) c early e = let y : ltb w.now clock_end ≡ true = grind (arith, nat_tests) in rw y (fresh_unit w t c.server)

-- the charge that a move makes is the one that was owed, or less of it, and is made before `until`
pub owed_most : (until now : ℕ) (o : Option Owed) (d : Owed) → Some d ≡ owed_before until now o
    → (c : Owed) × (o ≡ Some c) × (d.server ≡ c.server) × (d.ticks ≤ c.ticks) × (now < until)
owed_most until now None d e = cc
owed_most until now (Some c) d e = elim (cases_Bool (leb until now)) [
  | inl t ↦ let g : Some d ≡ None = rw t at e in cc
  | inr f ↦
      let cut : Owed = record c { ticks = min c.ticks (until - now) } in
      let g : Some d ≡ Some cut = rw f at e in
      let same : d ≡ cut = cc in
      let ticks = ap (λ (x : Owed). x.ticks) same in
      (c, refl, ap (λ (x : Owed). x.server) same, omega arith, grind (arith, nat_tests))
]

-- a submit leaves what was charged for the last unit
latest_submit : (w : World LoadJob) (t u : ℕ) (j : LoadJob) (o : Option CoreError)
    → (account (after_submit loading w t j o).accounts u).latest ≡ (account w.accounts u).latest
latest_submit w t u j None = latest_changed (account_with_job loading w.now j) w.accounts t u (λ a. refl)
latest_submit w t u j (Some e) = refl

-- the release that is submitted is the first to come
pub first_coming : (until : ℕ) (rs : List Release) (r : Release) (rest : List Release) → before until rs ≡ r ∷ rest → rs ≡ r ∷ drop 1 rs
first_coming until [] r rest e = cc
first_coming until (q ∷ qs) r rest e = elim (cases_Bool (ltb q.tick until)) [
  | inl t ↦ let is : q ∷ before until qs ≡ r ∷ rest = rw t at e in let same : q ≡ r = cc in ap (λ x. x ∷ qs) same
  | inr f ↦ let g : [] ≡ r ∷ rest = rw f at e in cc
]

-- if a move makes no charge before `until`, none is owed
owed_none : (until now : ℕ) (o : Option Owed) (c : Owed) → None ≡ owed_before until now o → o ≡ Some c → now < until → ⊥
owed_none until now None c e is early = cc
owed_none until now (Some d) c e is early =
    let f : leb until now ≡ false = grind (arith, nat_tests) in
    let g : None ≡ Some (record d { ticks = min d.ticks (until - now) }) = rw f at e in
    cc

-- a charge that is owed for a run is of the server that ran
owing_server : (w : World LoadJob) (o : Option ℕ) (c : Owed) → owing_for loading w (run_reply loading w o) ≡ Some c → o ≡ Some c.server
owing_server w None c e = cc
owing_server w (Some t) c e = elim (cases_Bool (leb clock_end w.now)) [
  | inl y ↦ let g : None ≡ Some c = rw y at e in cc
  | inr f ↦
      let unit : owing_for loading w (unit_reply loading (account w.accounts t) t) ≡ Some c = rw f at e in
      ap Some (owing_is t _ c (sym (unit_owes loading w t) ∙ unit)).0
]

-- the last step was a run, of server t
pub record IsAfterRun (sim : Simulation LoadJob) (t : ℕ) : Type 0 where
  pub before : List (Step LoadJob)
  pub steps : sim.history.steps ≡ Run ∷ before
  pub server : chosen loading (after loading sim.history.setup before) ≡ Some t

module _ (b : ℕ → ℕ) (until : ℕ) where
  -- no release to come, no job and no charge is beyond the bound of its server. Nothing is charged yet for a unit for
  -- which a charge is owed
  pub record IsBounded (sim : Simulation LoadJob) : Type 0 where
    pub within : AreWithin b (world_after loading sim.history)
    pub coming : AllByRecursion (λ r. r.overrun ≤ b r.server) sim.coming
    pub owing : (c : Owed) → sim.owing ≡ Some c
        → (c.ticks ≤ b c.server) × (clock_of loading job_of sim < until → (account (world_after loading sim.history).accounts c.server).latest ≡ 0)
    pub ran : (c : Owed) → sim.owing ≡ Some c → clock_of loading job_of sim < until → IsAfterRun sim c.server

  -- a charge follows the run that it is for
  pub charge_after_run : (sim : Simulation LoadJob) (t n : ℕ) → ChargesOwed loading job_of until sim (charge t n) → IsBounded sim → IsAfterRun sim t
  charge_after_run sim t n charges h =
      let o = owed_most until (clock_of loading job_of sim) sim.owing (record { server = t; ticks = n }) charges.charge in
      rw (o.2) (h.ran o.0 o.1 o.4)

  -- a charge is within the bound of its server
  pub charge_bounded : (sim : Simulation LoadJob) (t n : ℕ) → ChargesOwed loading job_of until sim (charge t n) → IsBounded sim
      → (n ≤ b t) × ((account (world_after loading sim.history).accounts t).latest ≡ 0)
  charge_bounded sim t n charges h =
      let o = owed_most until (clock_of loading job_of sim) sim.owing (record { server = t; ticks = n }) charges.charge in
      let k = h.owing o.0 o.1 in
      let is : t ≡ o.0.server = o.2 in
      let less = o.3 in
      let le = k.0 in
      rw is (omega arith, k.1 o.4)

  module _ (ends : until ≤ clock_end) (since : ℕ) where
    -- each move keeps this
    pub bounded_move : (sim : Simulation LoadJob) (m : Move) → MovesWell loading job_of until ends since sim m → IsBounded sim
        → IsBounded (after_move loading job_of sim m)
    bounded_move sim (submit r) well h =
        let w = world_after loading sim.history in
        let o = submit_refusal sim.history.setup.backlog (faces loading w) r.server in
        let e = first_coming until sim.coming r _ well.submits in
        let all : AllByRecursion (λ r. r.overrun ≤ b r.server) (r ∷ drop 1 sim.coming) = rw e at h.coming in
        let stands = submit-now loading sim.history.setup.backlog w r.server (job_of r) in
        record {
          within = within_submit b w r.server (job_of r) o all.0 h.within;
          coming = all.1;
          owing = λ c is. let k = h.owing c is in
              (k.0, λ early. latest_submit w r.server c.server (job_of r) o ∙ k.1 (omega arith));
          ran = λ c is early. absurd (owed_none until w.now sim.owing c well.charges.charge is (omega arith));
        }
    bounded_move sim run well h =
        let w = world_after loading sim.history in
        let fewer = well.fewer in
        record {
          within = within_run b sim.history.setup.backlog w h.within;
          coming = h.coming;
          owing = λ c is. (
            owed_within b w (ran_in (reply_in loading sim.history Run)) c h.within is,
            λ early. fresh_run w (chosen loading w) c (omega arith) is (well.going.owed early c is).1.runs,
          );
          ran = λ c is early. record { before = sim.history.steps; steps = refl; server = owing_server w (chosen loading w) c is };
        }
    bounded_move sim (pass n) well h = record {
      within = within_advance b sim.history.setup.backlog (world_after loading sim.history) n h.within;
      coming = h.coming;
      owing = λ c is. cc;
      ran = λ c is early. cc;
    }
    bounded_move sim (charge t n) well h =
        let k = charge_bounded sim t n well.charges h in
        record {
          within = within_charge b sim.history.setup.backlog (world_after loading sim.history) t n k.0 k.1 h.within;
          coming = h.coming;
          owing = λ c is. cc;
          ran = λ c is early. cc;
        }

  -- a new simulation is bounded if its releases are
  pub bounded_new : (ts : List Terms) (backlog : ℕ) (coming : List Release) → AllByRecursion (λ r. r.overrun ≤ b r.server) coming
      → IsBounded (record { history = record { setup = record { servers = ts; backlog = backlog }; steps = [] }; coming = coming; owing = None })
  bounded_new ts backlog coming all = record { within = within_start b ts; coming = all; owing = λ c is. cc; ran = λ c is early. cc }
