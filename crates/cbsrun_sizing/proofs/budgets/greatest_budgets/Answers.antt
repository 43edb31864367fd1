use Rattle.std.proofs.Common.{◌≡◌, ◌++◌, ◌∷◌, [], rules, refl, sym, ◌∙◌, arith}
use Rattle.std.proofs.lemmas.Grind.{common_steps}
use Rattle.std.proofs.lemmas.Result.{err_from_is_err_and}
use Rattle.cbsrun_sizing.specs.Budgets.{without}
use Rattle.cbsrun_sizing.proofs.Greatest.{greatest_more, greatest_for}
use Rattle.cbsrun_sizing.proofs.budgets.greatest_budgets.Goals as goal

pub loop-server-preserved : goal.loop-server-preserved
loop-server-preserved c =
    let plan = c.args.plan.now in
    let budget = c.greatest_budget_at.result in
    let pushed : c.push.new.self.items ≡ c.loop-server.budgets.items ++ budget ∷ [] = search (rules, common_steps) in
    rw pushed (greatest_more plan c.loop-server.server c.loop-server.budgets.items budget c.loop-server.invariant
    (greatest_for plan (without plan c.loop-server.server) c.loop-server.server budget c.period-period.result c.unwrap.result refl
    (sym c.get.ensures.value ∙ c.unwrap.ensures) c.period-period.ensures.value c.greatest_budget_at.ensures))

pub loop-server-init : goal.loop-server-init
loop-server-init c = grind (arith, common_steps)

pub returns : goal.returns
returns c = grind (arith, common_steps)

pub returns-in_err-budgets-clause-greatest : goal.returns-in_err-budgets-clause-greatest
returns-in_err-budgets-clause-greatest c =
    let p = err_from_is_err_and c.from_residual.result c.from_residual.ensures.1 in
    rw p.1 tt

pub returns-in_err-push-clause-greatest : goal.returns-in_err-push-clause-greatest
returns-in_err-push-clause-greatest c =
    let p = err_from_is_err_and c.from_residual-in_err-push.result c.from_residual-in_err-push.ensures.1 in
    rw p.1 tt

pub overflow_cast-servers : goal.overflow_cast-servers
overflow_cast-servers c = grind (arith, common_steps)

pub greatest_budget_at-requires : goal.greatest_budget_at-requires
greatest_budget_at-requires c = grind (arith, common_steps)
