use Rattle.std.proofs.Common.{◌≡◌, ◌+◌, ◌-◌, ◌*◌, ◌/◌, ◌%◌, ◌≤◌, ◌<◌, ℕ, true, arith, inl, inr, ap, rules}
use Rattle.std.proofs.lemmas.Grind.{common_steps}
use Rattle.std.proofs.lemmas.Nat.{mul-le, div-add-mod'}
use Rattle.std.proofs.lemmas.Bool.{cases_lt}
use Rattle.cbs_rate.specs.Rate.{Rate, IsRate}
use Rattle.cbs_rules.specs.declared.mode.Mode.TheVariants.{Throttled}
use Rattle.cbs_rules.specs.Rules.{State, Reserved, IsState}
use Rattle.cbs_rules.proofs.States.{IsState-after_excess}
use Rattle.cbs_rules.proofs.server_state.ServerState.pay.Goals as goal

-- no more budgets than ticks
few : (q e n : ℕ) → 0 < q → e < q + n → e / q ≤ n
few q e n some h =
    let d = div-add-mod' e q in
    elim (cases_lt n (e / q)) [
      | inl lt ↦ let m = mul-le (n + 1) q (e / q) q (omega arith) (omega arith) in let k = mul-le n 1 n q (omega arith) (omega arith) in absurd (omega arith)
      | inr ge ↦ ge
    ]

-- what a charge beyond the budget leaves of a throttled server
waits : (r : Rate) (s : State) (e n w p q : ℕ) → IsRate r.budget r.period → IsState r s → 0 < s.deadline → e < r.budget + n → w ≡ e / r.budget → p ≡ r.period → q ≡ r.budget → s.deadline + n * r.period ≤ 1000000001001000000000
    → IsState r (record { budget = 0; deadline = s.deadline + w * p; throttled = true; overrun = e % q }) × s.deadline + w * p ≤ 1000000001001000000000
waits r s e n w p q ok is begun h ew ep eq room =
    let f = few r.budget e n ok.some h in
    let m = mul-le (e / r.budget) r.period n r.period f (omega arith) in
    rw (ew, ep, eq) (IsState-after_excess Throttled r e s ok is (λ m. absurd (cc)) begun, omega arith)

pub invariant_of-self-in-Throttled : goal.invariant_of-self-in-Throttled
invariant_of-self-in-Throttled c =
    let r = c.self.inside.reservation in
    let n = c.args.ticks in
    let s : State = record { budget = c.self.inside.budget; deadline = c.self.inside.deadline; throttled = c.self.inside.throttled; overrun = c.self.inside.overrun } in
    let is : IsState r s = c.self.invariant.0 in
    let under = is.below in
    let d = ap (λ (v : Reserved). v.state.deadline) c.self.view_is in
    let t = ap (λ (v : Reserved). v.reservation.period) c.self.view_is in
    let begun : 0 < c.self.inside.deadline = let b = c.requires.begun in omega (arith, b, d) in
    let room : c.self.inside.deadline + n * r.period ≤ 1000000001001000000000 = rw (d, t) c.requires.room in
    waits r s (c.self.inside.overrun + n - c.self.inside.budget) n c.from-in-Throttled.result c.from-period.result c.budget-2.result c.budget.ensures.lawful is begun (omega arith)
    (let a = c.budget.ensures.value in let b = c.from-in-Throttled.ensures in rw a at b) (let a = c.period.ensures.value in let b = c.from-period.ensures in rw a at b) c.budget-2.ensures.value room

pub returns-then-ticks-self-clause-rule : goal.returns-then-ticks-self-clause-rule
returns-then-ticks-self-clause-rule c = search rules

pub invariant_of-self-in-Soft : goal.invariant_of-self-in-Soft
invariant_of-self-in-Soft c = grind (arith, common_steps)

pub overflow_add-self-in-Throttled : goal.overflow_add-self-in-Throttled
overflow_add-self-in-Throttled c = grind (arith, common_steps)

pub returns-in-Soft-clause-rule : goal.returns-in-Soft-clause-rule
returns-in-Soft-clause-rule c = search rules

pub returns-in-Throttled-clause-rule : goal.returns-in-Throttled-clause-rule
returns-in-Throttled-clause-rule c = search rules
