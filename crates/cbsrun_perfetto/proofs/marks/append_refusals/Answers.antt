use Rattle.std.proofs.Common.{arith}
use Rattle.std.proofs.lemmas.Grind.{common_steps}
use Rattle.cbsrun_perfetto.specs.Traces.{refusals_in, refusals_of}
use Rattle.cbsrun_perfetto.proofs.Growing.{piece_taken}
use Rattle.cbsrun_perfetto.proofs.marks.append_refusals.Goals as goal

pub loop-stretch-preserved : goal.loop-stretch-preserved
loop-stretch-preserved c =
    piece_taken (refusals_in c.args.thread) _ _ _ c.args.refused.now c.loop-stretch.stretch-index _ c.loop-stretch-test.true
    c.in_ok-append_refusals_in.ensures c.loop-stretch.invariant

pub returns : goal.returns
unfolding refusals_of
returns c = grind (arith, common_steps)
