use Rattle.std.proofs.Common.{◌≡◌, arith, sym, ◌∙◌, length}
use Rattle.std.proofs.lemmas.Option.{slice_get-get_or}
use Rattle.std.proofs.lemmas.Result.{IfOk-at_ok}
use Rattle.cbs_rate.specs.Plan.{admit_refusal, with_rate}
use Rattle.cbsrun_sizing.proofs.Removed.{takes_server, others_more, others_same, admitted}
use Rattle.cbsrun_sizing.proofs.budgets.without.Goals as goal
use Rattle.cbsrun_sizing.proofs.budgets.without.Goals.{then-other-server, else-other-server}

pub unwrap-reservation-requires : goal.unwrap-reservation-requires
unwrap-reservation-requires c =
    rw (c.get.ensures.value, slice_get-get_or c.args.plan.now.rates c.loop-other.other (record { budget = 0; period = 0 }) (omega arith))

pub unwrap-requires : goal.unwrap-requires
unwrap-requires c =
    let r = c.unwrap-reservation.result in
    let others = c.loop-other.others in
    admitted c.admit.result (admit_refusal others r) (length others.rates) c.admit.ensures.answer
    (takes_server c.args.plan.now others c.loop-other.other c.args.server r c.get.ensures.lawful (omega arith) (λ e. c.if-other-server.true (sym e))
    (sym c.get.ensures.value ∙ c.unwrap-reservation.ensures) c.loop-other.invariant)

pub loop-other-preserved : goal.loop-other-preserved
loop-other-preserved c = elim c.if-other-server.branch [
  | then-other-server w ↦
      let others = c.loop-other.others in
      let r = w.unwrap-reservation.result in
      let more = IfOk-at_ok (λ _. w.admit.new.self ≡ with_rate others r) w.unwrap.ensures w.admit.ensures.ok in
      rw w.others-is (others_more c.args.plan.now others w.admit.new.self c.loop-other.other c.args.server r (omega arith) (λ e. w.if-other-server.true (sym e))
      (sym w.get.ensures.value ∙ w.unwrap-reservation.ensures) c.loop-other.invariant more)
  | else-other-server w ↦
      rw w.others-is (others_same c.args.plan.now c.loop-other.others c.loop-other.other c.args.server (omega arith) c.loop-other.invariant)
]
