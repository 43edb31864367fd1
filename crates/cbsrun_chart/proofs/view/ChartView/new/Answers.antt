use Rattle.std.proofs.Common.{arith, refl, sym, ◌∙◌}
use Rattle.std.proofs.lemmas.Grind.{common_steps}
use Rattle.std.proofs.lemmas.Option.{slice_get-get_or}
use Rattle.cbsrun_chart.proofs.Rows.{rows_more}
use Rattle.cbsrun_chart.proofs.view.ChartView.new.Goals as goal

pub loop-server-preserved : goal.loop-server-preserved
loop-server-preserved c =
    let l = c.loop-server in
    rw c.in_ok-push.ensures.items (rows_more l.rows.items c.args.plan.now.rates l.server c.new.result c.unwrap-reservation.result
    l.invariant (sym c.unwrap-reservation.ensures ∙ c.get.ensures.value) c.new.ensures)

pub returns : goal.returns
returns c = grind (arith, common_steps)

pub returns-in_err-rows : goal.returns-in_err-rows
returns-in_err-rows c = grind (arith, common_steps)

pub loop-server-init : goal.loop-server-init
loop-server-init c = grind (arith, common_steps)

pub returns-in_err-push : goal.returns-in_err-push
returns-in_err-push c = grind (arith, common_steps)

pub unwrap-reservation-requires : goal.unwrap-reservation-requires
unwrap-reservation-requires c =
    rw (c.get.ensures.value, slice_get-get_or c.args.plan.now.rates c.loop-server.server (record { budget = 0; period = 0 }) (omega arith)) refl
