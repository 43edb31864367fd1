use Rattle.std.proofs.Common.{◌≡◌, ◌++◌, take, string_bytes}
use Rattle.std.specs.Prelude.{flat_map}
use Rattle.cbsrun_csv.specs.Lines.{job_line}
use Rattle.cbsrun_csv.proofs.lines.append_jobs.Given as goal

-- the lines of the first jobs
abbrev pub invariant-loop-job : goal.invariant-loop-job
invariant-loop-job l = string_bytes l.text ≡ string_bytes l.fn.text ++ flat_map (job_line l.name l.end) (take l.job-index l.jobs)
