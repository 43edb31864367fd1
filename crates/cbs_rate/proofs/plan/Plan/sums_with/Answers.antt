use Rattle.std.proofs.Common.{arith, refl}
use Rattle.cbs_rate.proofs.Plans.{common_some, least_next, asked_of, taken-le, added-le, refusal_fine, refusal_over, refusal_none, summed_next}
use Rattle.cbs_rate.proofs.plan.Plan.sums_with.Goals as goal

pub least_common_multiple-common-requires : goal.least_common_multiple-common-requires
least_common_multiple-common-requires c =
    common_some c.args.reservation c.self.invariant c.period-period.ensures.lawful

pub returns-then-is_full-clause-least : goal.returns-then-is_full-clause-least
returns-then-is_full-clause-least c =
    rw (← c.self.view_is) (least_next c.args.reservation c.self.invariant c.period-period.ensures.lawful)

pub returns-then-common-from-clause-least : goal.returns-then-common-from-clause-least
returns-then-common-from-clause-least c =
    rw (← c.self.view_is) (least_next c.args.reservation c.self.invariant c.period-period.ensures.lawful)

pub returns-then-not-allows-clause-least : goal.returns-then-not-allows-clause-least
returns-then-not-allows-clause-least c =
    rw (← c.self.view_is) (least_next c.args.reservation c.self.invariant c.period-period.ensures.lawful)

pub returns-clause-least : goal.returns-clause-least
returns-clause-least c =
    rw (← c.self.view_is) (least_next c.args.reservation c.self.invariant c.period-period.ensures.lawful)

pub returns-then-common-from-clause-answer : goal.returns-then-common-from-clause-answer
returns-then-common-from-clause-answer c =
    let asked = asked_of c.args.reservation c.self.invariant c.period-period.ensures.lawful refl c.period-period.ensures.value
    c.least_common_multiple-common.ensures c.is_full.ensures.value c.if-is_full.false in
    rw (← c.self.view_is) (refusal_fine asked (omega arith))

pub nonzero_div-taken : goal.nonzero_div-taken
nonzero_div-taken c =
    common_some c.args.reservation c.self.invariant c.period-period.ensures.lawful

pub overflow_mul-taken : goal.overflow_mul-taken
overflow_mul-taken c =
    let asked = asked_of c.args.reservation c.self.invariant c.period-period.ensures.lawful refl c.period-period.ensures.value
    c.least_common_multiple-common.ensures c.is_full.ensures.value c.if-is_full.false in
    omega (arith, taken-le asked)

pub overflow_add-taken : goal.overflow_add-taken
overflow_add-taken c =
    let asked = asked_of c.args.reservation c.self.invariant c.period-period.ensures.lawful c.budget.ensures.value c.period-period.ensures.value
    c.least_common_multiple-common.ensures c.is_full.ensures.value c.if-is_full.false in
    omega (arith, taken-le asked, added-le asked)

pub returns-then-not-allows-clause-answer : goal.returns-then-not-allows-clause-answer
returns-then-not-allows-clause-answer c =
    let asked = asked_of c.args.reservation c.self.invariant c.period-period.ensures.lawful c.budget.ensures.value c.period-period.ensures.value
    c.least_common_multiple-common.ensures c.is_full.ensures.value c.if-is_full.false in
    rw (← c.self.view_is) (refusal_over asked (omega arith) (λ le. let holds = c.allows.ensures.value.1 le in let fails = c.if-not-allows.true in cc))

pub returns-clause-answer : goal.returns-clause-answer
returns-clause-answer c =
    let asked = asked_of c.args.reservation c.self.invariant c.period-period.ensures.lawful c.budget.ensures.value c.period-period.ensures.value
    c.least_common_multiple-common.ensures c.is_full.ensures.value c.if-is_full.false in
    let within = c.allows.ensures.value.0 c.if-not-allows.false in
    rw (← c.self.view_is) (refusal_none asked (omega arith) within)

pub returns-clause-sums : goal.returns-clause-sums
returns-clause-sums c =
    let asked = asked_of c.args.reservation c.self.invariant c.period-period.ensures.lawful c.budget.ensures.value c.period-period.ensures.value
    c.least_common_multiple-common.ensures c.is_full.ensures.value c.if-is_full.false in
    let within = c.allows.ensures.value.0 c.if-not-allows.false in
    rw (← c.self.view_is) (summed_next asked (omega arith) within c.allows.ensures.lawful)
