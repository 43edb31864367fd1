use Rattle.std.proofs.Common.{arith}
use Rattle.std.proofs.lemmas.Grind.{common_steps}
use Rattle.cbsrun_perfetto.specs.Traces.{arrival_in, arrivals_of}
use Rattle.cbsrun_perfetto.proofs.Growing.{piece_taken}
use Rattle.cbsrun_perfetto.proofs.marks.append_arrivals.Goals as goal

pub loop-job-preserved : goal.loop-job-preserved
loop-job-preserved c =
    piece_taken (arrival_in c.args.window c.args.thread) _ _ _ c.args.jobs.now c.loop-job.job-index _ c.loop-job-test.true c.in_ok-append_arrival.ensures
    c.loop-job.invariant

pub returns : goal.returns
unfolding arrivals_of
returns c = grind (arith, common_steps)
