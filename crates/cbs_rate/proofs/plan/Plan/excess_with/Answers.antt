use Rattle.std.proofs.Common.{◌≡◌, arith, ap, ◌∙◌}
use Rattle.cbs_rate.proofs.Rooms.{fits_within, excess_is}
use Rattle.cbs_rate.proofs.plan.Plan.excess_with.Goals as goal

pub returns-then-taken-allowed : goal.returns-then-taken-allowed
returns-then-taken-allowed c =
    let num : c.from-num.result ≡ c.args.self.now.bound.num = c.from-num.ensures ∙ (c.num.ensures.value ∙ ap (λ b. b.num) c.bound.ensures) in
    let den : c.from-den.result ≡ c.args.self.now.bound.den = c.from-den.ensures ∙ (c.den.ensures.value ∙ ap (λ b. b.den) c.bound-2.ensures) in
    let within = rw (num, den) at c.if-taken-allowed.true in
    fits_within c.args.self.now.bound _ _ _ c.total_with-total.ensures.exact within

pub returns : goal.returns
returns c =
    let num : c.from-num.result ≡ c.args.self.now.bound.num = c.from-num.ensures ∙ (c.num.ensures.value ∙ ap (λ b. b.num) c.bound.ensures) in
    let den : c.from-den.result ≡ c.args.self.now.bound.den = c.from-den.ensures ∙ (c.den.ensures.value ∙ ap (λ b. b.den) c.bound-2.ensures) in
    let over = rw (num, den) at c.if-taken-allowed.false in
    let bounded = rw c.bound-2.ensures at c.den.ensures.lawful in
    let some = bounded.some in
    let at_most_one = bounded.at_most_one in
    rw (num, den) (excess_is c.args.self.now.bound _ _ _ (omega arith) c.total_with-total.ensures.exact over)
