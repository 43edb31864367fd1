use Rattle.std.proofs.Common.{◌≡◌, ◌++◌, take}
use Rattle.std.specs.Prelude.{flat_map}
use Rattle.cbsrun_perfetto.specs.Traces.{end_at}
use Rattle.cbsrun_perfetto.proofs.marks.append_ends.Given as goal

abbrev pub invariant-loop-job : goal.invariant-loop-job
invariant-loop-job l = l.lines.items ≡ l.fn.lines.items ++ flat_map (λ job. end_at l.window l.thread job job.finish) (take l.job-index l.jobs)
