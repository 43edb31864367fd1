use Rattle.std.proofs.Common.{arith}
use Rattle.std.proofs.lemmas.Grind.{common_steps}
use Rattle.cbsrun_chart.specs.declared.jobs.ChartJob.{ChartJob}
use Rattle.cbsrun_perfetto.specs.Traces.{end_at, ends_of}
use Rattle.cbsrun_perfetto.proofs.Growing.{piece_taken}
use Rattle.cbsrun_perfetto.proofs.marks.append_ends.Goals as goal

pub loop-job-preserved : goal.loop-job-preserved
loop-job-preserved c =
    piece_taken (λ (job : ChartJob). end_at c.args.window c.args.thread job job.finish) _ _ _ c.args.jobs.now c.loop-job.job-index _ c.loop-job-test.true
    c.in_ok-append_end.ensures c.loop-job.invariant

pub returns : goal.returns
unfolding ends_of
returns c = grind (arith, common_steps)
