use Rattle.std.proofs.Common.{arith}
use Rattle.cbsrun_sizing.proofs.Joins.{summed_none, summed_step, small_step, too_fine}
use Rattle.cbsrun_sizing.proofs.asked.asked_by.Goals as goal

pub loop-source-init : goal.loop-source-init
loop-source-init c = record { summed = summed_none; small = omega arith }

pub returns-in_err-asked : goal.returns-in_err-asked
returns-in_err-asked c = rw c.from_residual.ensures
    (too_fine c.args.sources.now c.loop-source.source-index _ c.loop-source.asked (omega arith) c.loop-source.invariant.summed c.in_err-asked.ensures.joined)

pub loop-source-preserved : goal.loop-source-preserved
loop-source-preserved c = record {
  summed = summed_step c.args.sources.now c.loop-source.source-index _ c.loop-source.asked c.in_ok-asked.asked (omega arith) c.loop-source.invariant.summed
      c.in_ok-asked.ensures.joined;
  small = small_step c.loop-source.source-index c.loop-source.asked c.in_ok-asked.asked _ c.loop-source.invariant.small c.in_ok-asked.ensures.joined
      c.in_ok-asked.ensures.small;
}
