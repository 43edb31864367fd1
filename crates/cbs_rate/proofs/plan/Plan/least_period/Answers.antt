use Rattle.std.proofs.Common.{◌≡◌, ℕ, ◌≤◌, ◌<◌, arith, ap, sym, ◌∙◌}
use Rattle.cbs_rate.proofs.Rooms.{within_bound, no_period_left, quotient_is_least, no_other_period}
use Rattle.cbs_rate.proofs.plan.Plan.least_period.Goals as goal

pub overflow_sub-left : goal.overflow_sub-left
overflow_sub-left c =
    let num : c.from-num.result ≡ c.args.self.now.bound.num = c.from-num.ensures ∙ (c.num.ensures.value ∙ ap (λ b. b.num) c.bound.ensures) in
    let den : c.from-den.result ≡ c.args.self.now.bound.den = c.from-den.ensures ∙ (c.den.ensures.value ∙ ap (λ b. b.den) c.bound-2.ensures) in
    rw (num, den) (within_bound c.total-total.ensures.lawful c.total-total.ensures.exact)

pub returns-then-left-eq0 : goal.returns-then-left-eq0
returns-then-left-eq0 c =
    let num : c.from-num.result ≡ c.args.self.now.bound.num = c.from-num.ensures ∙ (c.num.ensures.value ∙ ap (λ b. b.num) c.bound.ensures) in
    let den : c.from-den.result ≡ c.args.self.now.bound.den = c.from-den.ensures ∙ (c.den.ensures.value ∙ ap (λ b. b.den) c.bound-2.ensures) in
    let bounded = rw c.bound-2.ensures at c.den.ensures.lawful in
    no_period_left c.args.budget c.total-total.ensures.lawful c.total-total.ensures.exact bounded num den c.if-left-eq0.true

pub returns-in_default : goal.returns-in_default
returns-in_default c =
    let num : c.from-num.result ≡ c.args.self.now.bound.num = c.from-num.ensures ∙ (c.num.ensures.value ∙ ap (λ b. b.num) c.bound.ensures) in
    let den : c.from-den.result ≡ c.args.self.now.bound.den = c.from-den.ensures ∙ (c.den.ensures.value ∙ ap (λ b. b.den) c.bound-2.ensures) in
    let bounded = rw c.bound-2.ensures at c.den.ensures.lawful in
    let some = c.if-left-eq0.false in
    let quotient = rw c.from.ensures at c.div_ceil-period.ensures in
    no_other_period c.args.budget c.total-total.ensures.lawful c.total-total.ensures.exact bounded num den c.div_ceil-period.result (omega arith) quotient
    (λ taken rate. let short = rate.short in c.in_default.ensures (low short))
  where
    low : {n : ℕ} → n ≤ 1_000_000_000 → n < 18446744073709551616
    low le = omega arith

pub returns-then-not-takes : goal.returns-then-not-takes
returns-then-not-takes c =
    let num : c.from-num.result ≡ c.args.self.now.bound.num = c.from-num.ensures ∙ (c.num.ensures.value ∙ ap (λ b. b.num) c.bound.ensures) in
    let den : c.from-den.result ≡ c.args.self.now.bound.den = c.from-den.ensures ∙ (c.den.ensures.value ∙ ap (λ b. b.den) c.bound-2.ensures) in
    let bounded = rw c.bound-2.ensures at c.den.ensures.lawful in
    let some = c.if-left-eq0.false in
    let quotient = rw c.from.ensures at c.div_ceil-period.ensures in
    no_other_period c.args.budget c.total-total.ensures.lawful c.total-total.ensures.exact bounded num den c.div_ceil-period.result (omega arith) quotient
    (λ taken rate. let refused = rw (← c.in-Ok.ensures.1) at taken in let none = c.if-not-takes.ensures in cc)

pub returns : goal.returns
returns c =
    let num : c.from-num.result ≡ c.args.self.now.bound.num = c.from-num.ensures ∙ (c.num.ensures.value ∙ ap (λ b. b.num) c.bound.ensures) in
    let den : c.from-den.result ≡ c.args.self.now.bound.den = c.from-den.ensures ∙ (c.den.ensures.value ∙ ap (λ b. b.den) c.bound-2.ensures) in
    let bounded = rw c.bound-2.ensures at c.den.ensures.lawful in
    let some = c.if-left-eq0.false in
    let quotient = rw c.from.ensures at c.div_ceil-period.ensures in
    let taken = sym (c.if-not-takes.ensures) in
    let is = c.in-Ok.ensures.1 in
    rw is (quotient_is_least c.args.budget c.total-total.ensures.lawful c.total-total.ensures.exact bounded num den c.div_ceil-period.result (omega arith) quotient
    (rw is at taken))
