use Rattle.std.proofs.Common.{arith}
use Rattle.std.proofs.lemmas.Grind.{common_steps}
use Rattle.cbsrun_window.specs.declared.stretch.Stretch.{Stretch}
use Rattle.cbsrun_perfetto.specs.Traces.{slice_of, slices_of}
use Rattle.cbsrun_perfetto.proofs.Growing.{piece_taken}
use Rattle.cbsrun_perfetto.proofs.slices.append_slices.Goals as goal

pub loop-span-preserved : goal.loop-span-preserved
loop-span-preserved c =
    piece_taken (λ (p : Stretch). slice_of c.args.thread c.args.chart.now.jobs.items p.kind p) _ _ _ _ c.loop-span.span-index _ c.loop-span-test.true
    (rw c.deref-in-loop-span.ensures.value at c.in_ok-append_slice.ensures) c.loop-span.invariant

pub returns : goal.returns
unfolding slices_of
returns c = grind (arith, common_steps)
