-- What each server keeps, through what each step does to its face.
use Rattle.std.proofs.Common.{◌≡◌, ℕ, ◌+◌, ◌*◌, ◌≤◌, ◌<◌, Bool, true, false, arith, refl, inl, inr}
use Rattle.std.proofs.lemmas.Bool.{cases_Bool}
use Rattle.std.proofs.lemmas.Bool.Decides.{nat_tests}
use Rattle.std.proofs.lemmas.Nat.{mul-le}
use Rattle.cbs_rate.specs.Rate.{IsRate}
use Rattle.cbs_rules.specs.Rules.{Terms, State, IsState}
use Rattle.cbs_steps.proofs.LawfulServers.{arrives_in, soft_arrived}
use Rattle.cbs_rules.proofs.States.{IsState-fresh_state, IsState-after_unit, IsState-after_charge, IsState-after_replenishment, soft_after_unit, soft_after_charge, soft_after_replenishment}
use Rattle.cbs_rules.proofs.Charges.{charge_early}
use Rattle.cbs_rules.specs.declared.mode.Mode.TheVariants.{Soft}
use Rattle.cbs_steps.specs.Servers.{MayCharge}
use Rattle.cbs_rules.proofs.Deadlines.{begun_after_unit, begun_after_charge, begun_after_replenishment, deadline-consumed-le}
use Rattle.cbs_rules.proofs.Deadlines.{deadline-replenished-le}
use Rattle.cbs_steps.specs.Faces.{Face, new_face, is_active, is_ready, backlog_of, with_job, with_unit, with_charge, with_replenishment, with_close}
use Rattle.cbs_steps.specs.Servers.{IsServer}
use Rattle.cbs_steps.specs.Laws.{IsWithinBudget}
use Rattle.cbs_steps.proofs.Faces.{runnable}

module _ (backlog now : ℕ) where
  -- a new server
  pub server_new : (terms : Terms) → IsRate terms.reservation.budget terms.reservation.period → IsServer backlog now (new_face terms)
  server_new terms ok = record {
    lawful = ok;
    state = IsState-fresh_state terms.reservation ok;
    free = λ soft. refl;
    begun = λ active. cc;
    early = omega arith;
    counted = omega arith;
    few_done = omega arith;
    few_charged = omega arith;
    few_jobs = omega arith;
  }

  module _ (f : Face) (ok : IsServer backlog now f) where
    -- another state and another mark of closing, as time passes
    server_stated : (later : ℕ) → now ≤ later → (state : State) (closed : Bool) → IsState f.terms.reservation state → (f.terms.mode ≡ Soft → state.throttled ≡ false)
        → (is_active f ≡ true → 0 < state.deadline)
        → state.deadline ≤ later + (later + 1) * 1000000000 → IsServer backlog later (record f { state = state; closed = closed })
    server_stated later le state closed is free begun early = record {
      lawful = ok.lawful;
      state = is;
      free = free;
      begun = begun;
      early = early;
      counted = ok.counted;
      few_done = let e = ok.few_done in omega arith;
      few_charged = let e = ok.few_charged in omega arith;
      few_jobs = ok.few_jobs;
    }

    -- as the clock goes on
    pub server_later : (later : ℕ) → now ≤ later → IsServer backlog later f
    server_later later le = server_stated later le f.state f.closed ok.state ok.free ok.begun (let e = ok.early in omega arith)

    -- through a replenishment
    pub server_replenished : IsServer backlog now (with_replenishment now f)
    server_replenished = server_stated now (omega arith) (with_replenishment now f).state f.closed
        (IsState-after_replenishment f.terms.reservation now f.state ok.lawful ok.state)
        (λ soft. soft_after_replenishment f.terms.reservation now f.state (ok.free soft))
        (λ active. begun_after_replenishment f.terms.reservation now f.state (ok.begun active))
        (deadline-replenished-le f.terms.reservation now (now + (now + 1) * 1000000000) f.state ok.early (let p = ok.lawful.short in omega arith))

    -- through a close
    pub server_closed : IsServer backlog now (with_close f)
    server_closed = server_stated now (omega arith) f.state true ok.state ok.free ok.begun ok.early

    -- through a job that comes in, if the backlog is not full
    pub server_joined : backlog_of f < backlog → IsServer backlog now (with_job now f)
    server_joined few =
        let counted = ok.counted in
        let bound = now + (now + 1) * 1000000000 in
        let arrives = arrives_in now f ok.lawful ok.state ok.begun bound ok.early (let p = ok.lawful.short in omega arith) in
        record {
          lawful = ok.lawful;
          state = arrives.state;
          free = λ soft. soft_arrived now f (ok.free soft);
          begun = λ _. arrives.begun;
          early = arrives.early;
          counted = omega arith;
          few_done = ok.few_done;
          few_charged = ok.few_charged;
          few_jobs = omega arith;
        }

    -- through a unit
    pub server_run : (done : Bool) → is_ready f ≡ true → IsServer backlog (now + 1) (with_unit done f)
    server_run done ready =
        let run = runnable f ready in
        let active = run.active in
        let begun = ok.begun (grind (arith, nat_tests)) in
        let few = ok.few_done in
        let some = ok.few_jobs in
        let e = ok.early in
        let p = ok.lawful.short in
        let counts : (f.finished ≤ (with_unit done f).finished) × ((with_unit done f).finished ≤ f.finished + 1) =
        elim (cases_Bool done) [ inl t ↦ rw t (omega arith, omega arith) | inr n ↦ rw n (omega arith, omega arith) ] in
        record {
          lawful = ok.lawful;
          state = IsState-after_unit f.terms.mode f.terms.reservation f.state ok.lawful ok.state run.free begun;
          free = soft_after_unit f.terms.mode f.terms.reservation f.state ok.free;
          begun = λ _. begun_after_unit f.terms.mode f.terms.reservation f.state begun;
          early = omega (arith, deadline-consumed-le f.terms.mode f.terms.reservation f.state);
          counted = omega (arith, counts.1);
          few_done = omega (arith, counts.1);
          few_charged = let c = ok.few_charged in omega arith;
          few_jobs = omega (arith, counts.0);
        }

    -- through a charge of n ticks, which pass
    pub server_charged : (n for_unit : ℕ) → MayCharge n f → IsServer backlog (now + n) (with_charge n for_unit f)
    server_charged n for_unit may =
        let few = ok.few_done in
        let total = ok.few_charged in
        let e = ok.early in
        let p = ok.lawful.short in
        let m = mul-le n f.terms.reservation.period n 1000000000 (omega arith) p in
        let later = charge_early f.terms.mode f.terms.reservation n f.state may.some ok.lawful ok.state ok.free may.begun in
        record {
          lawful = ok.lawful;
          state = IsState-after_charge f.terms.mode f.terms.reservation n f.state ok.lawful ok.state ok.free may.begun;
          free = soft_after_charge f.terms.mode f.terms.reservation n f.state ok.free;
          begun = λ _. begun_after_charge f.terms.mode f.terms.reservation n f.state may.begun;
          early = omega arith;
          counted = ok.counted;
          few_done = omega arith;
          few_charged = omega arith;
          few_jobs = ok.few_jobs;
        }

    -- a ready server has a budget
    pub budget_some : is_ready f ≡ true → 0 < f.state.budget
    budget_some ready = let run = runnable f ready in let active = run.active in ok.state.unspent run.free (ok.begun (grind (arith, nat_tests)))

    -- the budget is within the reservation's
    pub within_budget : IsWithinBudget f
    within_budget = record { capped = ok.state.capped; ready = budget_some; throttled = ok.state.spent }
