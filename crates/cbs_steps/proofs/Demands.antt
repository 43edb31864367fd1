-- What each rule does to the demand of one server.
use Rattle.std.proofs.Common.{◌≡◌, ℕ, ◌+◌, ◌-◌, ◌*◌, ◌/◌, ◌≤◌, ◌<◌, Bool, true, false, ◌||◌, ◌&&◌, not, arith, refl, inl, inr}
use Rattle.std.specs.Prelude.{if◌then◌else◌, min}
use Rattle.std.proofs.lemmas.Bool.{cases_lt, cases_Bool}
use Rattle.std.proofs.lemmas.Bool.Decides.{nat_tests}
use Rattle.cbs_rate.specs.Rate.{Rate, IsRate}
use Rattle.cbs_rate.specs.Plan.{share}
use Rattle.cbs_rules.specs.Rules.{State, IsState, IsPaid, funds, until, is_renewed, after_arrival, after_unit, after_replenishment}
use Rattle.cbs_rules.proofs.Paid.{unit_paid, replenished_funds, replenished_until}
use Rattle.cbs_rules.proofs.States.{IsState-after_unit}
use Rattle.cbs_rules.specs.declared.mode.Mode.{Mode}
use Rattle.cbs_rules.specs.declared.mode.Mode.TheVariants.{Soft, Throttled}
use Rattle.cbs_steps.specs.OnTime.{full_demand, share_until, demand_of}
use Rattle.cbs_steps.proofs.DemandLines.{asked, asked_renewed, asked_kept, renewed_kept, renewed_past, asked_paid, asked_mono, asked_some, asked_before, line-mono, within_period}

-- an arrival that does not renew found a budget of no more than the share of the time until the deadline
not_renewed : (mode : Mode) (r : Rate) (now : ℕ) (s : State) → is_renewed mode r now s ≡ false
    → (now < s.deadline) × (s.budget * r.period ≤ (s.deadline - now) * r.budget)
not_renewed Soft r now s e = grind (arith, nat_tests)
not_renewed Throttled r now s e = grind (arith, nat_tests)

-- one that renews before the deadline found one of no less
pub renewed_early : (mode : Mode) (r : Rate) (now : ℕ) (s : State) → is_renewed mode r now s ≡ true → now < s.deadline
    → (s.deadline - now) * r.budget ≤ s.budget * r.period
renewed_early Soft r now s e h = grind (arith, nat_tests)
renewed_early Throttled r now s e h = grind (arith, nat_tests)

-- a unit leaves the deadline, or postpones it
pub unit_deadline : (mode : Mode) (r : Rate) (s : State) → s.deadline ≤ (after_unit mode r s).deadline
unit_deadline Soft r s = grind (arith, nat_tests)
unit_deadline Throttled r s = grind (arith, nat_tests)

-- a server that is not throttled is not replenished
free_stays : (r : Rate) (now : ℕ) (s : State) → s.throttled ≡ false → after_replenishment r now s ≡ s
free_stays r now s f = rw f

-- a server that a tick leaves throttled waits for a later deadline
pub replenished_ahead : (r : Rate) (now : ℕ) (s : State) → (after_replenishment r now s).throttled ≡ true → now < (after_replenishment r now s).deadline
replenished_ahead r now s = grind (arith, nat_tests)

-- after an arrival the deadline is still to come
arrival_deadline : (mode : Mode) (r : Rate) (now : ℕ) (s : State) → IsRate r.budget r.period → now < (after_arrival mode r now s).deadline
arrival_deadline Soft r now s ok = let a = ok.some in let b = ok.within in grind (arith, nat_tests)
arrival_deadline Throttled r now s ok = let a = ok.some in let b = ok.within in grind (arith, nat_tests)

-- an arrival at a server that is not throttled makes nothing due earlier
pub arrival_later : (mode : Mode) (r : Rate) (now : ℕ) (s : State) → IsRate r.budget r.period → s.budget ≤ r.budget → s.throttled ≡ false → until r s ≤ until r (after_arrival mode r now s)
arrival_later mode r now s ok capped free = elim (cases_Bool (is_renewed mode r now s)) [
  | inl t ↦
      let le : s.deadline ≤ now + r.period = elim (cases_lt now s.deadline) [
        | inl lt ↦ let a = within_period r.budget r.period s.budget (s.deadline - now) ok.some capped (renewed_early mode r now s t lt) in omega arith
        | inr ge ↦ omega arith
      ] in
      rw (t, free) le
  | inr f ↦ rw f (omega arith)
]

-- what a server may still take is due no earlier than its deadline
pub deadline-le-until : (r : Rate) (s : State) → s.deadline ≤ until r s
deadline-le-until r s = elim (cases_Bool s.throttled) [ inl t ↦ rw t (omega arith) | inr f ↦ rw f (omega arith) ]

module _ (P : ℕ) (r : Rate) (e : r.period * (P / r.period) ≡ P) where
  -- after an arrival at an idle, unthrottled server it asks for no more than its share from now on
  arrival_line : (mode : Mode) (now : ℕ) (s : State) (x : ℕ) → s.throttled ≡ false → full_demand P r (after_arrival mode r now s) x ≤ share_until P r now x
  arrival_line mode now s x free = elim (cases_Bool (is_renewed mode r now s)) [
    | inl t ↦ rw (t, free) (asked_renewed P (P / r.period) r.budget r.period now x e)
    | inr f ↦
        let h = not_renewed mode r now s f in
        rw (f, free) (asked_kept P (P / r.period) r.budget r.period s.budget s.deadline now x e (let l = h.0 in omega arith) h.1)
  ]

  -- and for no more than before
  arrival_full : (mode : Mode) (now : ℕ) (s : State) (x : ℕ) → now ≤ x → 0 < r.budget → s.budget ≤ r.budget → s.throttled ≡ false
      → full_demand P r (after_arrival mode r now s) x ≤ full_demand P r s x
  arrival_full mode now s x early some capped free = elim (cases_Bool (is_renewed mode r now s)) [
    | inl t ↦ rw (t, free) (elim (cases_lt now s.deadline) [
      | inl lt ↦ renewed_kept P (P / r.period) r.budget r.period s.budget s.deadline now x e some capped early (omega arith) (renewed_early mode r now s t lt)
      | inr ge ↦ renewed_past P (P / r.period) r.budget r.period s.budget s.deadline now x e early ge
    ])
    | inr f ↦ rw f (omega arith)
  ]

  -- what is paid is asked for no more, from the later deadline on
  pub paid_less : (n : ℕ) (s t : State) (x : ℕ) → IsPaid r n s t → until r t ≤ x → full_demand P r t x + n * P ≤ full_demand P r s x
  paid_less n s t x p h =
      let q = p.postponed in
      let ge : until r s + p.budgets * r.period ≤ x = omega arith in
      let less = asked_paid P (P / r.period) r.budget r.period (funds r s) (funds r t) (until r s) p.budgets n x e p.paid ge in
      rw q less

  -- so a unit asks for a tick less, from the deadline on
  pub unit_less : (mode : Mode) (s : State) (x : ℕ) → 0 < r.budget → IsState r s → s.throttled ≡ false → 0 < s.budget → s.deadline ≤ x
      → full_demand P r (after_unit mode r s) x + P ≤ full_demand P r s x
  unit_less mode s x whole is free some h =
      let u = share P r in
      let t = after_unit mode r s in
      let here : until r s ≡ s.deadline = rw free refl in
      let has : funds r s ≡ s.budget = rw free refl in
      elim (cases_lt x (until r t)) [
        | inl lt ↦
            let z = asked_before P u (funds r t) (until r t) x lt in
            let a = asked_some P u (funds r s) (until r s) x (omega arith) (omega arith) in
            omega arith
        | inr ge ↦ let l = paid_less 1 s t x (unit_paid mode r s whole is free some) ge in omega arith
      ]

  -- a replenishment asks for as much
  replenished_full : (now : ℕ) (s : State) (x : ℕ) → IsState r s → full_demand P r (after_replenishment r now s) x ≡ full_demand P r s x
  replenished_full now s x is = rw (replenished_funds r now s is, replenished_until r now s) refl

  -- a throttled server stays below its share from now on, if its deadline has not come
  pub throttled_line : (s : State) (now x : ℕ) → s.throttled ≡ true → now ≤ s.deadline → full_demand P r s x ≤ share_until P r now x
  throttled_line s now x t ahead =
      let u = share P r in
      let full : full_demand P r s x ≡ asked P u (r.budget - s.overrun) (s.deadline + r.period) x = rw t refl in
      let mono = asked_mono P u (r.budget - s.overrun) r.budget (s.deadline + r.period) x (omega arith) in
      let line : asked P u r.budget (s.deadline + r.period) x ≤ (x - s.deadline) * u = asked_renewed P (P / r.period) r.budget r.period s.deadline x e in
      let less = line-mono u (x - s.deadline) (x - now) (omega arith) in
      omega arith

-- whether the server is active or not
module _ (P : ℕ) (r : Rate) (now x : ℕ) where
  -- the demand is never more than the full one
  pub demand-le : (active : Bool) (s : State) → demand_of P r now x active s ≤ full_demand P r s x
  demand-le active s = elim (cases_Bool (active || s.throttled)) [ inl t ↦ rw t (omega arith) | inr f ↦ rw f (omega arith) ]

  -- it is the full one of a server that is active or throttled
  pub demand_busy : (active : Bool) (s : State) → (active || s.throttled) ≡ true → demand_of P r now x active s ≡ full_demand P r s x
  demand_busy active s t = rw t

  -- and else no more than its share from now on, either
  demand_idle : (active : Bool) (s : State) → (active || s.throttled) ≡ false → demand_of P r now x active s ≡ min (full_demand P r s x) (share_until P r now x)
  demand_idle active s f = rw f

  -- nothing before what may still be taken is due
  pub demand_before : (active : Bool) (s : State) → x < until r s → demand_of P r now x active s ≡ 0
  demand_before active s h =
      let l = demand-le active s in
      let z : full_demand P r s x ≡ 0 = asked_before P (share P r) (funds r s) (until r s) x h in
      omega arith

  -- never less than the least of both
  least-le : (active : Bool) (s : State) → min (full_demand P r s x) (share_until P r now x) ≤ demand_of P r now x active s
  least-le active s = elim (cases_Bool (active || s.throttled)) [ inl t ↦ rw t (omega arith) | inr f ↦ rw f (omega arith) ]

  -- one that is not active for another reason asks for no more
  pub fewer-le : (more active : Bool) (s : State) → demand_of P r now x active s ≤ demand_of P r now x (more || active) s
  fewer-le more active s = elim (cases_Bool (active || s.throttled)) [
    | inl t ↦ let a = demand-le active s in let b = demand_busy (more || active) s (grind (arith, nat_tests)) in omega arith
    | inr f ↦ let a = demand_idle active s f in let b = least-le (more || active) s in omega arith
  ]

  -- a job that comes in asks for no more, also of a server that is active for another reason
  pub job-less : (b active more : Bool) (mode : Mode) (s : State) → r.period * (P / r.period) ≡ P → IsRate r.budget r.period → s.budget ≤ r.budget
      → demand_of P r now x b (if active || s.throttled then s else after_arrival mode r now s) ≤ demand_of P r now x (more || active) s
  job-less b active more mode s e ok capped = elim (cases_Bool (active || s.throttled)) [
    | inl t ↦ let k = demand-le b s in let m = demand_busy (more || active) s (grind (arith, nat_tests)) in rw t (omega arith)
    | inr f ↦
        let free : s.throttled ≡ false = grind (arith, nat_tests) in
        let t = after_arrival mode r now s in
        let le = demand-le b t in
        let line = arrival_line P r e mode now s x free in
        let less : full_demand P r t x ≤ full_demand P r s x = elim (cases_lt x now) [
          | inl past ↦
              let later = arrival_deadline mode r now s ok in
              let due = deadline-le-until r t in
              let z : full_demand P r t x ≡ 0 = asked_before P (share P r) (funds r t) (until r t) x (omega arith) in
              omega arith
          | inr early ↦ arrival_full P r e mode now s x early ok.some capped free
        ] in
        let least = least-le (more || active) s in
        let goal : demand_of P r now x b t ≤ demand_of P r now x (more || active) s = omega arith in
        rw f goal
  ]

  -- a job that comes in asks for no more
  pub job-le : (b active : Bool) (mode : Mode) (s : State) → r.period * (P / r.period) ≡ P → 0 < r.budget → s.budget ≤ r.budget → now ≤ x
      → demand_of P r now x b (if active || s.throttled then s else after_arrival mode r now s) ≤ demand_of P r now x active s
  job-le b active mode s e some capped early =
      elim (cases_Bool (active || s.throttled)) [
        | inl t ↦ rw t (demand-le b s)
        | inr f ↦
            let free : s.throttled ≡ false = grind (arith, nat_tests) in
            let le = demand-le b (after_arrival mode r now s) in
            let g = arrival_full P r e mode now s x early some capped free in
            let h = arrival_line P r e mode now s x free in
            let goal : demand_of P r now x b (after_arrival mode r now s) ≤ min (full_demand P r s x) (share_until P r now x) = omega arith in
            rw f goal
      ]

module _ (P : ℕ) (r : Rate) (e : r.period * (P / r.period) ≡ P) (now x : ℕ) (active : Bool) (s : State) (is : IsState r s) where
  -- after a tick the demand is at most the full one before
  tick_full : demand_of P r (now + 1) x active (after_replenishment r (now + 1) s) ≤ full_demand P r s x
  tick_full =
      let b = demand-le P r (now + 1) x active (after_replenishment r (now + 1) s) in
      let c = replenished_full P r e (now + 1) s x is in
      omega arith

  -- and at most the one before
  pub tick-le : demand_of P r (now + 1) x active (after_replenishment r (now + 1) s) ≤ demand_of P r now x active s
  tick-le = elim (cases_Bool (active || s.throttled)) [
    | inl t ↦ rw (demand_busy P r now x active s t) tick_full
    | inr f ↦
        let m = line-mono (share P r) (x - (now + 1)) (x - now) (omega arith) in
        let a = demand_idle P r now x active s f in
        let b = demand_idle P r (now + 1) x active s f in
        let goal : demand_of P r (now + 1) x active s ≤ demand_of P r now x active s = rw (a, b) (omega arith) in
        rw (free_stays r (now + 1) s (grind (arith, nat_tests))) goal
  ]

  -- if the server is not ready, at most its share from then on
  pub rest_line : (active && not s.throttled) ≡ false → (s.throttled ≡ true → now < s.deadline)
      → demand_of P r (now + 1) x active (after_replenishment r (now + 1) s) ≤ share_until P r (now + 1) x
  rest_line rest ahead = elim (cases_Bool s.throttled) [
    | inl t ↦
        let a = demand-le P r (now + 1) x active (after_replenishment r (now + 1) s) in
        let b = replenished_full P r e (now + 1) s x is in
        let c = throttled_line P r e s (now + 1) x t (let l = ahead t in omega arith) in
        omega arith
    | inr f ↦
        let idle : (active || s.throttled) ≡ false = grind (arith, nat_tests) in
        let goal : demand_of P r (now + 1) x active s ≤ share_until P r (now + 1) x = rw (demand_idle P r (now + 1) x active s idle) (omega arith) in
        rw (free_stays r (now + 1) s f) goal
  ]

  -- before the deadline nothing
  pub tick_before : x < s.deadline → demand_of P r (now + 1) x active (after_replenishment r (now + 1) s) ≡ 0
  tick_before h =
      let b = tick_full in
      let c = asked_before P (share P r) (funds r s) (until r s) x (let l = deadline-le-until r s in omega arith) in
      let d : demand_of P r (now + 1) x active (after_replenishment r (now + 1) s) ≤ 0 = omega arith in
      omega arith

-- a unit of a ready server, and a tick; whether the server is active still or not
module _ (P : ℕ) (r : Rate) (e : r.period * (P / r.period) ≡ P) (ok : IsRate r.budget r.period) (mode : Mode) (now x : ℕ) (active : Bool) (s : State) (is : IsState r s) (free : s.throttled ≡ false) (begun : 0 < s.deadline) where
  abbrev after : IsState r (after_unit mode r s)
  after = IsState-after_unit mode r s ok is free begun

  -- from the deadline on it asks for a tick less than the full demand before
  pub run_less : s.deadline ≤ x → demand_of P r (now + 1) x active (after_replenishment r (now + 1) (after_unit mode r s)) + P ≤ full_demand P r s x
  run_less far =
      let b = tick_full P r e now x active (after_unit mode r s) after in
      let c = unit_less P r e mode s x ok.some is free (is.unspent free begun) far in
      omega arith

  -- and before it for nothing
  pub run_before : x < s.deadline → demand_of P r (now + 1) x active (after_replenishment r (now + 1) (after_unit mode r s)) ≡ 0
  run_before near = tick_before P r e now x active (after_unit mode r s) after (let d = unit_deadline mode r s in omega arith)
