-- What each server keeps after every history: a reservation within its limits, and a state that the rules leave.
use Rattle.std.proofs.Common.{◌≡◌, ℕ, ◌+◌, ◌<◌, ◌≤◌, true, false, ◌||◌, arith, inl, inr}
use Rattle.std.proofs.lemmas.Bool.{cases_Bool}
use Rattle.std.proofs.lemmas.Bool.Decides.{nat_tests}
use Rattle.cbs_job.specs.Work.{Meaning}
use Rattle.cbs_rate.specs.Rate.{IsRate, Rate}
use Rattle.cbs_rules.specs.Rules.{IsState, State}
use Rattle.cbs_rules.proofs.States.{IsState-after_arrival, IsState-after_unit, IsState-after_charge, IsState-after_replenishment, soft_after_unit, soft_after_charge, soft_after_replenishment}
use Rattle.cbs_rules.proofs.Deadlines.{begun_after_arrival, begun_after_unit, begun_after_charge, begun_after_replenishment, deadline-arrived-le}
use Rattle.cbs_rules.specs.declared.mode.Mode.TheVariants.{Soft}
use Rattle.cbs_steps.specs.Faces.{Face, arrived, is_active, is_ready}
use Rattle.cbs_steps.specs.Accounts.{Account, face_of, account_with_job, account_with_unit, account_with_charge, account_with_replenishment, account_with_close, account_let_go}
use Rattle.cbs_steps.proofs.Faces.{runnable}

-- a job that comes in throttles no server
pub soft_arrived : (now : ℕ) (f : Face) → f.state.throttled ≡ false → (arrived now f).throttled ≡ false
soft_arrived now f free = grind (arith, nat_tests)

-- a state that the rules leave, with a deadline, and none later than a bound
pub record IsDueBy (r : Rate) (bound : ℕ) (s : State) : Type 0 where
  pub state : IsState r s
  pub begun : 0 < s.deadline
  pub early : s.deadline ≤ bound

-- a job that comes in leaves such a one, if the bound leaves time for a period from now
pub arrives_in : (now : ℕ) (f : Face) → IsRate f.terms.reservation.budget f.terms.reservation.period → IsState f.terms.reservation f.state
    → (is_active f ≡ true → 0 < f.state.deadline) → (bound : ℕ) → f.state.deadline ≤ bound → now + f.terms.reservation.period ≤ bound
    → IsDueBy f.terms.reservation bound (arrived now f)
arrives_in now f rate is begun bound early late = elim (cases_Bool (is_active f || f.state.throttled)) [
  | inl t ↦ rw t record { state = is; begun = let m = is.unmarked in grind (arith, nat_tests); early = early }
  | inr n ↦
      rw n record {
        state = IsState-after_arrival f.terms.mode f.terms.reservation now f.state rate is (grind (arith, nat_tests));
        begun = begun_after_arrival f.terms.mode f.terms.reservation now f.state rate;
        early = deadline-arrived-le f.terms.mode f.terms.reservation now bound f.state early late;
      }
]

-- its reservation is within its limits, its budget, deadline, mark and overrun are ones that the rules leave, a soft
-- one is never throttled, while it is active or runs it has had its first deadline, and no unit was charged more than
-- the most
pub record IsLawful {W : Type 0} (work : Meaning W) (a : Account W) : Type 0 where
  pub rate : IsRate a.terms.reservation.budget a.terms.reservation.period
  pub state : IsState a.terms.reservation a.state
  pub free : a.terms.mode ≡ Soft → a.state.throttled ≡ false
  pub begun : is_active (face_of work a) ≡ true → 0 < a.state.deadline
  pub ran : a.runs ≡ true → 0 < a.state.deadline
  pub within : a.latest ≤ a.charges.most

module _ {W : Type 0} (work : Meaning W) where
  -- a job that comes in keeps it
  pub lawful_job : (now : ℕ) (job : W) (a : Account W) → IsLawful work a → IsLawful work (account_with_job work now job a)
  lawful_job now job a ok =
      let late = a.state.deadline + now + a.terms.reservation.period in
      let arrives = arrives_in now (face_of work a) ok.rate ok.state ok.begun late (omega arith) (omega arith) in
      record {
        rate = ok.rate;
        state = arrives.state;
        free = λ soft. let f = ok.free soft in soft_arrived now (face_of work a) f;
        begun = λ _. arrives.begun;
        ran = λ _. arrives.begun;
        within = ok.within;
      }

  -- so does a unit of a ready server
  pub lawful_unit : (a : Account W) → is_ready (face_of work a) ≡ true → IsLawful work a → IsLawful work (account_with_unit a)
  lawful_unit a ready ok =
      let run = runnable (face_of work a) ready in
      let active = run.active in
      let begun = ok.begun (grind (arith, nat_tests)) in
      record {
        rate = ok.rate;
        state = IsState-after_unit a.terms.mode a.terms.reservation a.state ok.rate ok.state run.free begun;
        free = soft_after_unit a.terms.mode a.terms.reservation a.state ok.free;
        begun = λ _. begun_after_unit a.terms.mode a.terms.reservation a.state begun;
        ran = λ _. begun_after_unit a.terms.mode a.terms.reservation a.state begun;
        within = omega arith;
      }

  -- so does a charge of a server that runs
  pub lawful_charge : (n : ℕ) (a : Account W) → a.runs ≡ true → IsLawful work a → IsLawful work (account_with_charge n a)
  lawful_charge n a runs ok =
      let begun = ok.ran runs in
      let within = ok.within in
      record {
        rate = ok.rate;
        state = IsState-after_charge a.terms.mode a.terms.reservation n a.state ok.rate ok.state ok.free begun;
        free = soft_after_charge a.terms.mode a.terms.reservation n a.state ok.free;
        begun = λ _. begun_after_charge a.terms.mode a.terms.reservation n a.state begun;
        ran = λ _. begun_after_charge a.terms.mode a.terms.reservation n a.state begun;
        within = omega arith;
      }

  -- and that it is let go
  pub lawful_let_go : (a : Account W) → IsLawful work a → IsLawful work (account_let_go a)
  lawful_let_go a ok = record { rate = ok.rate; state = ok.state; free = ok.free; begun = ok.begun; ran = λ runs. cc; within = ok.within }

  -- so does a replenishment
  pub lawful_replenishment : (now : ℕ) (a : Account W) → IsLawful work a → IsLawful work (account_with_replenishment now a)
  lawful_replenishment now a ok = record {
    rate = ok.rate;
    state = IsState-after_replenishment a.terms.reservation now a.state ok.rate ok.state;
    free = λ soft. soft_after_replenishment a.terms.reservation now a.state (ok.free soft);
    begun = λ active. begun_after_replenishment a.terms.reservation now a.state (ok.begun active);
    ran = λ runs. begun_after_replenishment a.terms.reservation now a.state (ok.ran runs);
    within = ok.within;
  }

  -- and a close
  pub lawful_close : (a : Account W) → IsLawful work a → IsLawful work (account_with_close a)
  lawful_close a ok = record { rate = ok.rate; state = ok.state; free = ok.free; begun = ok.begun; ran = ok.ran; within = ok.within }

  -- a ready server has had its first deadline
  pub ready_begun : (a : Account W) → is_ready (face_of work a) ≡ true → IsLawful work a → 0 < a.state.deadline
  ready_begun a ready ok = let active = (runnable (face_of work a) ready).active in ok.begun (grind (arith, nat_tests))

  -- and a budget
  pub ready_budget : (a : Account W) → is_ready (face_of work a) ≡ true → IsLawful work a → 0 < a.state.budget
  ready_budget a ready ok = ok.state.unspent (runnable (face_of work a) ready).free (ready_begun a ready ok)
