-- What being on time rests on of a demand: what each rule does to it. The demand is ruled so, and so is the strict one.
use Rattle.std.proofs.Common.{◌≡◌, ℕ, ◌+◌, ◌-◌, ◌*◌, ◌/◌, ◌≤◌, ◌<◌, Bool, true, false, ◌||◌, ◌&&◌, not, arith, refl, inl, inr}
use Rattle.std.specs.Prelude.{if◌then◌else◌, leb}
use Rattle.std.proofs.lemmas.Bool.{cases_Bool}
use Rattle.std.proofs.lemmas.Bool.Decides.{nat_tests}
use Rattle.std.proofs.lemmas.Nat.{mul-le}
use Rattle.cbs_rate.specs.Rate.{Rate, IsRate}
use Rattle.cbs_rate.specs.Plan.{share}
use Rattle.cbs_rules.specs.Rules.{State, IsState, after_arrival, after_unit, after_replenishment}
use Rattle.cbs_rules.specs.declared.mode.Mode.{Mode}
use Rattle.cbs_rules.proofs.States.{IsState-after_unit}
use Rattle.cbs_steps.specs.OnTime.{full_demand, share_until, demand_of}
use Rattle.cbs_steps.specs.StrictlyOnTime.{strict_demand_of}
use Rattle.cbs_steps.proofs.DemandLines.{asked_spent, asked_from, line-mono, line_before}
use Rattle.cbs_steps.proofs.Demands.{demand-le, demand_busy, job-le, tick-le, rest_line, tick_before, run_less, run_before, throttled_line, unit_deadline}

-- the demand D up to tick x, of a server with this reservation, active or not, in this state: what each rule does to it
pub record IsMoved (D : ℕ → Rate → ℕ → ℕ → Bool → State → ℕ) (P : ℕ) (r : Rate) (now x : ℕ) (active : Bool) (s : State) : Type 0 where
  pub job : (b : Bool) (mode : Mode) → now ≤ x → D P r now x b (if active || s.throttled then s else after_arrival mode r now s) ≤ D P r now x active s
  pub tick : D P r (now + 1) x active (after_replenishment r (now + 1) s) ≤ D P r now x active s
  pub rest : (active && not s.throttled) ≡ false → (s.throttled ≡ true → now < s.deadline)
      → D P r (now + 1) x active (after_replenishment r (now + 1) s) ≤ share_until P r (now + 1) x
  pub before : x < s.deadline → D P r (now + 1) x active (after_replenishment r (now + 1) s) ≡ 0
  pub run : (b : Bool) (mode : Mode) → (active && not s.throttled) ≡ true → 0 < s.deadline → s.deadline ≤ x
      → D P r (now + 1) x b (after_replenishment r (now + 1) (after_unit mode r s)) + P ≤ D P r now x active s
  pub run_before : (b : Bool) (mode : Mode) → (active && not s.throttled) ≡ true → 0 < s.deadline → x < s.deadline
      → D P r (now + 1) x b (after_replenishment r (now + 1) (after_unit mode r s)) ≡ 0

-- a demand that is ruled: an idle, unthrottled server asks for no more than its share, and each rule moves it so
pub record IsRuled (D : ℕ → Rate → ℕ → ℕ → Bool → State → ℕ) : Type 0 where
  pub idle : (P : ℕ) (r : Rate) (now x : ℕ) (s : State) → s.throttled ≡ false → D P r now x false s ≤ share_until P r now x
  pub moved : (P : ℕ) (r : Rate) (now x : ℕ) (active : Bool) (s : State) → r.period * (P / r.period) ≡ P → IsRate r.budget r.period → IsState r s
      → IsMoved D P r now x active s

-- a ready server is not throttled
ready_free : (active : Bool) (s : State) → (active && not s.throttled) ≡ true → s.throttled ≡ false
ready_free active s h = grind (arith, nat_tests)

-- the demand is ruled
pub demand_ruled : IsRuled demand_of
demand_ruled = record {
  idle = λ P r now x s free. rw free (omega arith);
  moved = λ P r now x active s e ok is. record {
    job = λ b mode early. job-le P r now x b active mode s e ok.some is.capped early;
    tick = tick-le P r e now x active s is;
    rest = rest_line P r e now x active s is;
    before = tick_before P r e now x active s is;
    run = λ b mode ready begun far.
        let all = demand_busy P r now x active s (grind (arith, nat_tests)) in
        let less = run_less P r e ok mode now x b s is (ready_free active s ready) begun far in
        omega arith;
    run_before = λ b mode ready begun near. run_before P r e ok mode now x b s is (ready_free active s ready) begun near;
  };
}

-- a server that a tick leaves throttled was so before, and is not replenished
tick_waits : (r : Rate) (now : ℕ) (s : State) → (after_replenishment r now s).throttled ≡ true → after_replenishment r now s ≡ s
tick_waits r now s h = elim (cases_Bool (s.throttled && leb s.deadline now)) [
  | inl t ↦ let no : false ≡ true = rw t at h in cc
  | inr f ↦ rw f refl
]

-- a job that comes in throttles no server
arrived_free : (active : Bool) (mode : Mode) (r : Rate) (now : ℕ) (s : State) → s.throttled ≡ false
    → (if active || s.throttled then s else after_arrival mode r now s).throttled ≡ false
arrived_free active mode r now s free = grind (arith, nat_tests)

module _ (P : ℕ) (r : Rate) (now x : ℕ) (active : Bool) (s : State) where
  -- both demands of a server that is not throttled are the same
  strict_free : s.throttled ≡ false → strict_demand_of P r now x active s ≡ demand_of P r now x active s
  strict_free free = rw free refl

  -- a throttled one asks for its share of each tick after its deadline
  strict_waiting : IsState r s → s.throttled ≡ true → strict_demand_of P r now x active s ≡ share_until P r s.deadline x
  strict_waiting is t =
      let busy : (active || s.throttled) ≡ true = grind (arith, nat_tests) in
      rw (busy, is.spent t) (asked_spent P (share P r) s.deadline x)

  -- the strict demand is never less than the other
  pub demand-le-strict : r.period * (P / r.period) ≡ P → IsState r s → demand_of P r now x active s ≤ strict_demand_of P r now x active s
  demand-le-strict e is = elim (cases_Bool s.throttled) [
    | inl t ↦
        let a = demand-le P r now x active s in
        let b = throttled_line P r e s s.deadline x t (omega arith) in
        let c = strict_waiting is t in
        omega arith
    | inr f ↦ let a = strict_free f in omega arith
  ]

-- a unit leaves such a state
unit_state : (r : Rate) (mode : Mode) (active : Bool) (s : State) → IsRate r.budget r.period → IsState r s → (active && not s.throttled) ≡ true → 0 < s.deadline
    → IsState r (after_unit mode r s)
unit_state r mode active s ok is ready begun = IsState-after_unit mode r s ok is (ready_free active s ready) begun

module _ (P : ℕ) (r : Rate) (now x : ℕ) (active : Bool) (s : State) (e : r.period * (P / r.period) ≡ P) (ok : IsRate r.budget r.period) (is : IsState r s) where
  -- a job asks strictly for no more
  strict_job : (b : Bool) (mode : Mode) → now ≤ x
      → strict_demand_of P r now x b (if active || s.throttled then s else after_arrival mode r now s) ≤ strict_demand_of P r now x active s
  strict_job b mode early = elim (cases_Bool s.throttled) [
    | inl t ↦
        let busy : (active || s.throttled) ≡ true = grind (arith, nat_tests) in
        let same : (if active || s.throttled then s else after_arrival mode r now s) ≡ s = rw busy refl in
        let old = strict_waiting P r now x active s is t in
        let new = strict_waiting P r now x b s is t in
        rw same (omega arith)
    | inr f ↦
        let old = strict_free P r now x active s f in
        let new = strict_free P r now x b (if active || s.throttled then s else after_arrival mode r now s) (arrived_free active mode r now s f) in
        let le = job-le P r now x b active mode s e ok.some is.capped early in
        omega arith
  ]

  -- nor for more after a tick
  strict_tick : strict_demand_of P r (now + 1) x active (after_replenishment r (now + 1) s) ≤ strict_demand_of P r now x active s
  strict_tick = elim (cases_Bool (after_replenishment r (now + 1) s).throttled) [
    | inl t ↦
        let same = tick_waits r (now + 1) s t in
        let waits : s.throttled ≡ true = rw same at t in
        let old = strict_waiting P r now x active s is waits in
        let new = strict_waiting P r (now + 1) x active s is waits in
        rw same (omega arith)
    | inr f ↦
        let new = strict_free P r (now + 1) x active (after_replenishment r (now + 1) s) f in
        let le = tick-le P r e now x active s is in
        let old = demand-le-strict P r now x active s e is in
        omega arith
  ]

  -- if the server is not ready, for at most its share from then on
  strict_rest : (active && not s.throttled) ≡ false → (s.throttled ≡ true → now < s.deadline)
      → strict_demand_of P r (now + 1) x active (after_replenishment r (now + 1) s) ≤ share_until P r (now + 1) x
  strict_rest rest ahead = elim (cases_Bool (after_replenishment r (now + 1) s).throttled) [
    | inl t ↦
        let same = tick_waits r (now + 1) s t in
        let waits : s.throttled ≡ true = rw same at t in
        let later = ahead waits in
        let new = strict_waiting P r (now + 1) x active s is waits in
        let less = line-mono (share P r) (x - s.deadline) (x - (now + 1)) (omega arith) in
        rw same (omega arith)
    | inr f ↦
        let new = strict_free P r (now + 1) x active (after_replenishment r (now + 1) s) f in
        let le = rest_line P r e now x active s is rest ahead in
        omega arith
  ]

  -- and before the deadline for nothing
  strict_before : x < s.deadline → strict_demand_of P r (now + 1) x active (after_replenishment r (now + 1) s) ≡ 0
  strict_before h = elim (cases_Bool (after_replenishment r (now + 1) s).throttled) [
    | inl t ↦
        let same = tick_waits r (now + 1) s t in
        let waits : s.throttled ≡ true = rw same at t in
        let new = strict_waiting P r (now + 1) x active s is waits in
        let none = line_before (share P r) s.deadline x h in
        rw same (omega arith)
    | inr f ↦
        let new = strict_free P r (now + 1) x active (after_replenishment r (now + 1) s) f in
        let none = tick_before P r e now x active s is h in
        omega arith
  ]

  -- a unit that leaves the server throttled, and a tick: the share of the time after the deadline
  unit_waits : (b : Bool) (mode : Mode) → (active && not s.throttled) ≡ true → 0 < s.deadline
      → (after_replenishment r (now + 1) (after_unit mode r s)).throttled ≡ true
      → strict_demand_of P r (now + 1) x b (after_replenishment r (now + 1) (after_unit mode r s)) ≤ share_until P r s.deadline x
  unit_waits b mode ready begun t =
      let u = after_unit mode r s in
      let same = tick_waits r (now + 1) u t in
      let waits : u.throttled ≡ true = rw same at t in
      let new = strict_waiting P r (now + 1) x b u (unit_state r mode active s ok is ready begun) waits in
      let later = unit_deadline mode r s in
      let less = line-mono (share P r) (x - u.deadline) (x - s.deadline) (omega arith) in
      rw same (omega arith)

  -- from the deadline on a unit asks for a tick less
  strict_run : (b : Bool) (mode : Mode) → (active && not s.throttled) ≡ true → 0 < s.deadline → s.deadline ≤ x
      → strict_demand_of P r (now + 1) x b (after_replenishment r (now + 1) (after_unit mode r s)) + P ≤ strict_demand_of P r now x active s
  strict_run b mode ready begun far =
      let free = ready_free active s ready in
      let old = strict_free P r now x active s free in
      let all = demand_busy P r now x active s (grind (arith, nat_tests)) in
      elim (cases_Bool (after_replenishment r (now + 1) (after_unit mode r s)).throttled) [
        | inl t ↦
            let new = unit_waits b mode ready begun t in
            let full : full_demand P r s x ≡ s.budget * P + (x - s.deadline) * share P r = rw free (asked_from P (share P r) s.budget s.deadline x far) in
            let some = is.unspent free begun in
            let one = mul-le 1 P s.budget P some (omega arith) in
            omega arith
        | inr f ↦
            let new = strict_free P r (now + 1) x b (after_replenishment r (now + 1) (after_unit mode r s)) f in
            let less = run_less P r e ok mode now x b s is free begun far in
            omega arith
      ]

  -- and before it for nothing
  strict_run_before : (b : Bool) (mode : Mode) → (active && not s.throttled) ≡ true → 0 < s.deadline → x < s.deadline
      → strict_demand_of P r (now + 1) x b (after_replenishment r (now + 1) (after_unit mode r s)) ≡ 0
  strict_run_before b mode ready begun near = elim (cases_Bool (after_replenishment r (now + 1) (after_unit mode r s)).throttled) [
    | inl t ↦
        let new = unit_waits b mode ready begun t in
        let none = line_before (share P r) s.deadline x near in
        omega arith
    | inr f ↦
        let new = strict_free P r (now + 1) x b (after_replenishment r (now + 1) (after_unit mode r s)) f in
        let none = run_before P r e ok mode now x b s is (ready_free active s ready) begun near in
        omega arith
  ]

-- so the strict demand is ruled, too
pub strict_ruled : IsRuled strict_demand_of
strict_ruled = record {
  idle = λ P r now x s free. rw free (omega arith);
  moved = λ P r now x active s e ok is. record {
    job = strict_job P r now x active s e ok is;
    tick = strict_tick P r now x active s e ok is;
    rest = strict_rest P r now x active s e ok is;
    before = strict_before P r now x active s e ok is;
    run = strict_run P r now x active s e ok is;
    run_before = strict_run_before P r now x active s e ok is;
  };
}
