use Rattle.std.proofs.Common.{◌≡◌, ◌++◌, take}
use Rattle.std.specs.Prelude.{flat_map}
use Rattle.cbsrun_perfetto.specs.Traces.{arrival_in}
use Rattle.cbsrun_perfetto.proofs.marks.append_arrivals.Given as goal

abbrev pub invariant-loop-job : goal.invariant-loop-job
invariant-loop-job l = l.lines.items ≡ l.fn.lines.items ++ flat_map (arrival_in l.window l.thread) (take l.job-index l.jobs)
